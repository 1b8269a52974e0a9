-- The steps of a receive ring: when each can happen, what it changes, and its note.
use Rattle.std.specs.Prelude.{ℕ, ◌-◌, ◌%◌, Bool, true, not, ◌&&◌, nat_lt, List, Option, Some, None, slice_index}
use Rattle.ring_model.specs.declared.steps.RxStep.{RxStep}
use Rattle.ring_model.specs.declared.steps.RxStep.TheVariants.{Post, Publish, Look, Fetch, Store, Take, Head, Control, Reclaim, StoreQuiet, LoadQuiet, ClearHead, ClearTail, ClearQuiet}
use Rattle.ring_model.specs.declared.notes.TakenSegment.{TakenSegment}
use Rattle.ring_model.specs.declared.notes.Note.{Note}
use Rattle.ring_model.specs.declared.notes.Note.TheVariants as note
use Rattle.ring_model.specs.shared.Handshakes.{is_live, is_serving, control_value, enables}
use Rattle.ring_model.specs.shared.Queue.{posted_count, completed_count, reaped_count, returned_count, next_head, is_settled, may, by}
use Rattle.ring_model.specs.shared.QueueSteps as queue
use Rattle.ring_model.specs.shared.Schedules.{after_all, happened, next, told_by, IsReached}
use Rattle.ring_model.specs.receive.Ring.{RxRing, rx_opening, due, is_whole, next_segment}
use Rattle.ring_model.specs.shared.Segments.{Segment, ends_segment}

module _ {Payload : Type 0} where
  -- The driver takes the next segment if its load shows that it is stored.
  abbrev pub took : RxRing Payload → Option (Segment Payload) → RxRing Payload
  took r None = r
  took r (Some s) = record r { queue = by r.queue (queue.Reap s) }

  abbrev pub rx_settled : RxRing Payload → Bool
  rx_settled r = is_settled ends_segment r.queue

  abbrev pub rx_can : RxRing Payload → RxStep Payload → Bool
  rx_can r (Post b) = may r.queue (queue.Post b)
  rx_can r Publish = may r.queue queue.Publish
  rx_can r Look = may r.queue queue.Look
  rx_can r Fetch = may r.queue queue.Fetch && not r.still
  rx_can r (Store x eop) = may r.queue (queue.Complete (next_segment r x eop))
  rx_can r Take = is_live r.handshake.driver && nat_lt (reaped_count r.queue) (posted_count r.queue)
  rx_can r Head = may r.queue queue.Head
  rx_can r (Control c) = may r.queue (queue.Controls c (rx_settled r))
  rx_can r Reclaim = may r.queue queue.Reclaim
  rx_can r StoreQuiet = is_serving r.handshake.controller && not r.held && is_whole r
  rx_can r LoadQuiet = true
  rx_can r ClearHead = may r.queue queue.ClearHead
  rx_can r ClearTail = may r.queue queue.ClearTail
  rx_can r ClearQuiet = may r.queue queue.Renew

  -- The ring after a step. After an answered enabling, the controller may store again.
  -- No worked row decides `still` at `ClearQuiet`; the laws' proofs rely on it.
  abbrev pub rx_changed : RxRing Payload → RxStep Payload → RxRing Payload
  rx_changed r (Post b) = record r { queue = by r.queue (queue.Post b) }
  rx_changed r Publish = record r { queue = by r.queue queue.Publish }
  rx_changed r Look = record r { queue = by r.queue queue.Look }
  rx_changed r Fetch = record r { queue = by r.queue queue.Fetch }
  rx_changed r (Store x eop) = record r { queue = by r.queue (queue.Complete (next_segment r x eop)) }
  rx_changed r Take = took r (due r)
  rx_changed r Head = record r { queue = by r.queue queue.Head }
  rx_changed r (Control c) = record r { queue = by r.queue (queue.Controls c (rx_settled r)); still = not (enables r.handshake c) && r.still }
  rx_changed r Reclaim = record r { queue = by r.queue queue.Reclaim }
  rx_changed r StoreQuiet = record r { quiet = 1; still = true }
  rx_changed r LoadQuiet = r
  rx_changed r ClearHead = record r { queue = by r.queue queue.ClearHead }
  rx_changed r ClearTail = record r { queue = by r.queue queue.ClearTail }
  rx_changed r ClearQuiet = record r { queue = by r.queue queue.Renew; quiet = 0 }

  abbrev pub rx_next : RxRing Payload → RxStep Payload → RxRing Payload
  rx_next = next rx_can rx_changed

  abbrev pub rx_after_all : RxRing Payload → List (RxStep Payload) → RxRing Payload
  rx_after_all = after_all rx_can rx_changed

  abbrev pub rx_happened : RxRing Payload → List (RxStep Payload) → ℕ
  rx_happened = happened rx_can rx_changed

-- Some schedule leads to the ring from a new ring of `n` places, enabled or never enabled.
abbrev pub IsRxReachable : (Payload : Type 0) → ℕ → RxRing Payload → Type 0
IsRxReachable Payload n r = IsReached (rx_can {Payload = Payload}) rx_changed (rx_opening n) r

-- The note of a step. Here a segment's payload is its number of bytes.
abbrev pub taken_segment : Option (Segment ℕ) → Option TakenSegment
taken_segment None = None
taken_segment (Some s) = Some (record { buffer = s.number; len = s.payload; eop = s.eop })

abbrev pub rx_note_of : RxRing ℕ → RxStep ℕ → Note
rx_note_of r (Post b) = note.Place (posted_count r.queue % r.size)
rx_note_of r Publish = note.Tail (posted_count r.queue % r.size)
rx_note_of r Look = note.Free (r.published - completed_count r.queue)
rx_note_of r Fetch = note.Fetched (next_head r.queue) (slice_index r.ledger.posted (completed_count r.queue))
rx_note_of r (Store x eop) = note.Place (next_head r.queue)
rx_note_of r Take = note.Taken (taken_segment (due r))
rx_note_of r Head = note.Head (next_head r.queue)
rx_note_of r (Control c) = note.Control (control_value r.handshake c)
rx_note_of r Reclaim = note.Buffer (slice_index r.ledger.posted (returned_count r.queue))
rx_note_of r StoreQuiet = note.Quiet 1
rx_note_of r LoadQuiet = note.Quiet r.quiet
rx_note_of r ClearHead = note.Head 0
rx_note_of r ClearTail = note.Tail 0
rx_note_of r ClearQuiet = note.Quiet 0

abbrev pub rx_notes : RxRing ℕ → List (RxStep ℕ) → List (Option Note)
rx_notes = told_by rx_can rx_changed rx_note_of
