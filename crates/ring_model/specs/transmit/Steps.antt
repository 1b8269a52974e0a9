-- The steps of a transmit ring: when each can happen, what it changes, and its note.
use Rattle.std.specs.Prelude.{ℕ, zero, suc, ◌+◌, ◌-◌, ◌%◌, Bool, true, false, not, ◌&&◌, nat_lt, List, Option, Some, None, slice_get, if◌then◌else◌}
use Rattle.ring_model.specs.declared.states.Completion.{Completion}
use Rattle.ring_model.specs.declared.states.Completion.TheVariants as completion
use Rattle.ring_model.specs.declared.steps.TxStep.{TxStep}
use Rattle.ring_model.specs.declared.steps.TxStep.TheVariants.{Post, Publish, Look, Fetch, Send, Report, LoadReport, Clean, Control, Reclaim, ClearHead, ClearTail, ClearReport}
use Rattle.ring_model.specs.declared.notes.FetchedSegment.{FetchedSegment}
use Rattle.ring_model.specs.declared.notes.Note.{Note}
use Rattle.ring_model.specs.declared.notes.Note.TheVariants as note
use Rattle.ring_model.specs.shared.Handshakes.{is_live, control_value, enables}
use Rattle.ring_model.specs.shared.Queue.{posted_count, completed_count, reaped_count, returned_count, next_head, is_settled, may, by}
use Rattle.ring_model.specs.shared.QueueSteps as queue
use Rattle.ring_model.specs.shared.Schedules.{after_all, happened, next, told_by, IsReached}
use Rattle.ring_model.specs.transmit.Ring.{Posting, TxRing, tx_opening, are_whole, ends_posting, next_posting, next_sent}

-- The controller reports through a head word.
abbrev pub by_head : Completion → Bool
by_head completion.Status = false
by_head completion.Head = true

abbrev pub is_there : Option ℕ → Bool
is_there None = false
is_there (Some j) = true

module _ {Payload : Type 0} where
  abbrev pub asks_report : Option (Posting Payload) → Bool
  asks_report None = false
  asks_report (Some p) = p.rs

  -- The first item that asks for a report, among the given number of items from item `k` on.
  abbrev pub first_report : List (Posting Payload) → ℕ → ℕ → Option ℕ
  first_report ps k zero = None
  first_report ps k (suc more) = if asks_report (slice_get ps k) then Some k else first_report ps (k + 1) more

  -- The oldest report that was asked for and not yet seen.
  abbrev pub oldest_report : TxRing Payload → Option ℕ
  oldest_report r = first_report r.ledger.posted r.seen_reported (posted_count r.queue - r.seen_reported)

  -- Nothing is left to serve or report, so a disabling may be answered.
  abbrev pub tx_settled : TxRing Payload → Bool
  tx_settled r = is_settled ends_posting r.queue && not r.owed

  -- The posting is sent and the head stored. A report is owed if the posting asked for one.
  -- No worked row decides whether a report that was owed stays so: nothing is sent while one is owed.
  abbrev pub sent_one : TxRing Payload → Option (Posting Payload) → TxRing Payload
  sent_one r None = r
  sent_one r (Some p) = record r { queue = by (by r.queue (queue.Complete p)) queue.Head; owed = p.rs }

  -- If the load shows the report, all items up to it are seen reported.
  abbrev pub loaded_report : TxRing Payload → Option ℕ → TxRing Payload
  loaded_report r None = r
  loaded_report r (Some j) = if nat_lt j r.reported then record r { seen_reported = j + 1 } else r

  abbrev pub cleaned_one : TxRing Payload → Option (Posting Payload) → TxRing Payload
  cleaned_one r None = r
  cleaned_one r (Some p) = record r { queue = by r.queue (queue.Reap p.number) }

  -- A new epoch: the lists and the counts of reports are empty again.
  abbrev pub tx_renewed : TxRing Payload → TxRing Payload
  tx_renewed r = record r { queue = by r.queue queue.Renew; reported = 0; seen_reported = 0 }

  -- After the tail is cleared. A ring that reports in its descriptors has no report word to clear.
  abbrev pub tx_cleared : TxRing Payload → Bool → TxRing Payload
  tx_cleared r false = tx_renewed (record r { queue = by r.queue queue.ClearTail })
  tx_cleared r true = record r { queue = by r.queue queue.ClearTail }

  -- Only whole frames are published. An owed report comes before the next fetch.
  -- No worked row decides `by_head` in `ClearReport`: a ring that reports by status words is never Tailed.
  abbrev pub tx_can : TxRing Payload → TxStep (Posting Payload) → Bool
  tx_can r (Post p) = may r.queue (queue.Post p)
  tx_can r Publish = may r.queue queue.Publish && are_whole r.ledger.posted
  tx_can r Look = may r.queue queue.Look
  tx_can r Fetch = may r.queue queue.Fetch && not r.owed
  tx_can r Send = r.held
  tx_can r Report = r.owed
  tx_can r LoadReport = is_live r.handshake.driver && is_there (oldest_report r)
  tx_can r Clean = is_live r.handshake.driver && nat_lt (reaped_count r.queue) r.seen_reported
  tx_can r (Control c) = may r.queue (queue.Controls c (tx_settled r))
  tx_can r Reclaim = may r.queue queue.Reclaim
  tx_can r ClearHead = may r.queue queue.ClearHead
  tx_can r ClearTail = may r.queue queue.ClearTail
  tx_can r ClearReport = by_head r.completion && may r.queue queue.Renew

  -- No worked row decides `owed` at `Control`: no report is owed when an enabling is answered.
  abbrev pub tx_changed : TxRing Payload → TxStep (Posting Payload) → TxRing Payload
  tx_changed r (Post p) = record r { queue = by r.queue (queue.Post p) }
  tx_changed r Publish = record r { queue = by r.queue queue.Publish }
  tx_changed r Look = record r { queue = by r.queue queue.Look }
  tx_changed r Fetch = record r { queue = by r.queue queue.Fetch }
  tx_changed r Send = sent_one r (next_posting r)
  tx_changed r Report = record r { reported = completed_count r.queue; owed = false }
  tx_changed r LoadReport = loaded_report r (oldest_report r)
  tx_changed r Clean = cleaned_one r (next_sent r)
  tx_changed r (Control c) = record r { queue = by r.queue (queue.Controls c (tx_settled r)); owed = not (enables r.handshake c) && r.owed }
  tx_changed r Reclaim = record r { queue = by r.queue queue.Reclaim }
  tx_changed r ClearHead = record r { queue = by r.queue queue.ClearHead }
  tx_changed r ClearTail = tx_cleared r (by_head r.completion)
  tx_changed r ClearReport = tx_renewed r

  abbrev pub tx_next : TxRing Payload → TxStep (Posting Payload) → TxRing Payload
  tx_next = next tx_can tx_changed

  abbrev pub tx_after_all : TxRing Payload → List (TxStep (Posting Payload)) → TxRing Payload
  tx_after_all = after_all tx_can tx_changed

  abbrev pub tx_happened : TxRing Payload → List (TxStep (Posting Payload)) → ℕ
  tx_happened = happened tx_can tx_changed

-- Some schedule leads to the ring from a new ring of `n` places, for either way to report.
abbrev pub IsTxReachable : (Payload : Type 0) → ℕ → TxRing Payload → Type 0
IsTxReachable Payload n r = IsReached (tx_can {Payload = Payload}) tx_changed (tx_opening n) r

-- `f` of the item, or `none` if there is no item; then the step cannot happen.
abbrev pub told_of : {A B : Type 0} → B → (A → B) → Option A → B
told_of none f None = none
told_of none f (Some x) = f x

abbrev pub fetched_segment : Option (Posting ℕ) → FetchedSegment
fetched_segment = told_of (record { buffer = 0; len = 0; eop = false; rs = false }) (λ p. record { buffer = p.number; len = p.payload; eop = p.eop; rs = p.rs })

abbrev pub number_of : Option (Posting ℕ) → ℕ
number_of = told_of 0 (λ p. p.number)

-- The place of the report that the driver sees, if it has been made.
abbrev pub seen_place : TxRing ℕ → Option ℕ → Option ℕ
seen_place r None = None
seen_place r (Some j) = if nat_lt j r.reported then Some (j % r.size) else None

abbrev pub report_note : TxRing ℕ → Bool → Note
report_note r false = note.Place ((completed_count r.queue - 1) % r.size)
report_note r true = note.Head (next_head r.queue)

-- The note of a step. Here a posting's payload is its number of bytes.
abbrev pub tx_note_of : TxRing ℕ → TxStep (Posting ℕ) → Note
tx_note_of r (Post p) = note.Place (posted_count r.queue % r.size)
tx_note_of r Publish = note.Tail (posted_count r.queue % r.size)
tx_note_of r Look = note.Ready (r.published - completed_count r.queue)
tx_note_of r Fetch = note.Sending (next_head r.queue) (fetched_segment (next_posting r))
tx_note_of r Send = note.Head ((completed_count r.queue + 1) % r.size)
tx_note_of r Report = report_note r (by_head r.completion)
tx_note_of r LoadReport = note.Reported (seen_place r (oldest_report r))
tx_note_of r Clean = note.Buffer (number_of (next_sent r))
tx_note_of r (Control c) = note.Control (control_value r.handshake c)
tx_note_of r Reclaim = note.Buffer (number_of (slice_get r.ledger.posted (returned_count r.queue)))
tx_note_of r ClearHead = note.Head 0
tx_note_of r ClearTail = note.Tail 0
tx_note_of r ClearReport = note.Head 0

abbrev pub tx_notes : TxRing ℕ → List (TxStep (Posting ℕ)) → List (Option Note)
tx_notes = told_by tx_can tx_changed tx_note_of
