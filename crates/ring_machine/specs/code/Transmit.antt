-- What a transmit queue's machine computes for each step, over its places and words: whether it makes the step, its
-- result, and its next state.
use Rattle.std.specs.Prelude.{ℕ, nat_le, Bool, true, false, not, ◌&&◌, ◌==◌, Option, Some, None, Result, Ok, is_none, slice_index, if◌then◌else◌}
use Rattle.ring_model.specs.declared.steps.TxStep.{TxStep}
use Rattle.ring_model.specs.declared.steps.TxStep.TheVariants.{Post, Publish, Look, Fetch, Send, Report, LoadReport, Clean, Control, Reclaim, ClearHead, ClearTail, ClearReport}
use Rattle.ring_model.specs.declared.notes.Note.{Note}
use Rattle.ring_model.specs.declared.notes.Note.TheVariants as note
use Rattle.ring_model.specs.shared.Handshakes.{control_value, enables, is_cleared, is_live, is_open, is_serving, is_stopped, is_tailed, may_control_step}
use Rattle.ring_model.specs.shared.Lists.{slot_at}
use Rattle.ring_model.specs.transmit.Ring.{Posting, TxBeginning}
use Rattle.ring_model.specs.transmit.Steps.{by_head, is_there}
use Rattle.ring_model.specs.transmit.Agreement.{done_word, tx_word}
use Rattle.refusals.specs.declared.errors.MachineError.{MachineError}
use Rattle.ring_model.specs.shared.Places.{between_places, place_next}
use Rattle.ring_machine.specs.code.Shared.{after_clear_head, after_clear_tail, after_fetch, after_head, after_look, after_out, after_post, after_publish, after_renew, after_serve, after_control, are_all_back, begun, can_fetch, can_post, looks_settled, refused_empty, word_put}
use Rattle.ring_machine.specs.transmit.Machine.{TxParts}
use Rattle.ring_machine.specs.code.Words.{first_asking, place_before, word_eop, word_len, word_rs}

-- The place of the oldest report that was asked for and not seen.
abbrev pub oldest_place : TxParts → Option ℕ
oldest_place p = first_asking p.queue.words p.queue.size p.rep (between_places p.queue.size p.rep p.queue.fill)

-- Whether the report of this place is made: by its descriptor's word, or by the head word.
abbrev pub is_made : TxParts → ℕ → Bool
is_made p place = if by_head p.completion then nat_le (between_places p.queue.size p.rep (place_next p.queue.size place)) (between_places p.queue.size p.rep p.report) else (slice_index p.queue.words place == done_word)

abbrev pub tx_may : TxParts → TxStep (Posting ℕ) → Bool
tx_may p (Post b) = can_post p.queue
tx_may p Publish = is_open p.queue.handshake.driver && p.ends
tx_may p Look = is_serving p.queue.handshake.controller
tx_may p Fetch = can_fetch p.queue && not p.owed
tx_may p Send = not (is_none p.queue.held)
tx_may p Report = p.owed
tx_may p LoadReport = is_live p.queue.handshake.driver && is_there (oldest_place p)
tx_may p Clean = is_live p.queue.handshake.driver && not (p.queue.next == p.rep)
tx_may p (Control c) = may_control_step p.queue.handshake c (looks_settled p.queue && not p.owed)
tx_may p Reclaim = is_stopped p.queue.handshake.driver && not (are_all_back p.queue)
tx_may p ClearHead = is_stopped p.queue.handshake.driver && are_all_back p.queue
tx_may p ClearTail = is_cleared p.queue.handshake.driver
tx_may p ClearReport = by_head p.completion && is_tailed p.queue.handshake.driver

-- The word at the controller's place.
abbrev pub serve_word : TxParts → ℕ
serve_word p = slice_index p.queue.words p.queue.serve

-- The buffer in the slot that comes out next.
abbrev pub next_slot : TxParts → Option ℕ
next_slot p = slot_at p.queue.slots p.queue.next

abbrev pub sending_told : ℕ → ℕ → ℕ → Note
sending_told place word b = note.Sending place (record { buffer = b; len = word_len word; eop = word_eop word; rs = word_rs word })

abbrev pub reported_told : TxParts → Option ℕ → Option ℕ
reported_told p None = None
reported_told p (Some place) = if is_made p place then Some place else None

abbrev pub report_told : TxParts → Bool → Note
report_told p false = note.Place (place_before p.queue.size p.queue.serve)
report_told p true = note.Head p.queue.serve

abbrev pub tx_told : TxParts → TxStep (Posting ℕ) → Result Note MachineError
tx_told p (Post b) = Ok (note.Place p.queue.fill)
tx_told p Publish = Ok (note.Tail p.queue.fill)
tx_told p Look = Ok (note.Ready (between_places p.queue.size p.queue.serve p.queue.tail))
tx_told p Fetch = refused_empty (sending_told p.queue.serve (serve_word p)) (slot_at p.queue.slots p.queue.serve)
tx_told p Send = refused_empty (λ b. note.Head (place_next p.queue.size p.queue.serve)) p.queue.held
tx_told p Report = Ok (report_told p (by_head p.completion))
tx_told p LoadReport = Ok (note.Reported (reported_told p (oldest_place p)))
tx_told p Clean = refused_empty note.Buffer (next_slot p)
tx_told p (Control c) = Ok (note.Control (control_value p.queue.handshake c))
tx_told p Reclaim = refused_empty note.Buffer (next_slot p)
tx_told p ClearHead = Ok (note.Head 0)
tx_told p ClearTail = Ok (note.Tail 0)
tx_told p ClearReport = Ok (note.Head 0)

-- The buffer is put back and the head stored. The word is still the fetched one, since only a report changes it.
abbrev pub after_send : TxParts → ℕ → Option ℕ → TxParts
after_send p word None = p
after_send p word (Some b) = record p { queue = after_head (after_serve p.queue None (word_eop word) (Some b)); owed = word_rs word }

abbrev pub after_report : TxParts → Bool → TxParts
after_report p false = record p { queue = record p.queue { words = word_put p.queue.words (place_before p.queue.size p.queue.serve) (Some done_word) }; owed = false }
after_report p true = record p { report = p.queue.serve; owed = false }

abbrev pub after_load : TxParts → Option ℕ → TxParts
after_load p None = p
after_load p (Some place) = if is_made p place then record p { rep = place_next p.queue.size place } else p

abbrev pub tx_after_renew : TxParts → TxParts
tx_after_renew p = record p { queue = after_renew p.queue; report = 0; rep = 0; ends = true }

-- A queue that reports in its descriptors has nothing more to clear.
abbrev pub tx_after_clear : TxParts → Bool → TxParts
tx_after_clear p false = tx_after_renew (record p { queue = after_clear_tail p.queue })
tx_after_clear p true = record p { queue = after_clear_tail p.queue }

abbrev pub tx_moved : TxParts → TxStep (Posting ℕ) → TxParts
tx_moved p (Post b) = record p { queue = after_post p.queue b.number (tx_word b.payload b.eop b.rs b.paylen); ends = b.eop }
tx_moved p Publish = record p { queue = after_publish p.queue }
tx_moved p Look = record p { queue = after_look p.queue }
tx_moved p Fetch = record p { queue = after_fetch p.queue (slot_at p.queue.slots p.queue.serve) }
tx_moved p Send = after_send p (serve_word p) p.queue.held
tx_moved p Report = after_report p (by_head p.completion)
tx_moved p LoadReport = after_load p (oldest_place p)
tx_moved p Clean = record p { queue = after_out p.queue (Some 0) (next_slot p) }
tx_moved p (Control c) = record p { queue = after_control p.queue c; owed = not (enables p.queue.handshake c) && p.owed }
tx_moved p Reclaim = record p { queue = after_out p.queue (Some 0) (next_slot p) }
tx_moved p ClearHead = record p { queue = after_clear_head p.queue }
tx_moved p ClearTail = tx_after_clear p (by_head p.completion)
tx_moved p ClearReport = tx_after_renew p

-- A new machine.
abbrev pub tx_begun : ℕ → TxBeginning → TxParts
tx_begun n b = record { queue = begun n b.enabled; completion = b.completion; report = 0; rep = 0; ends = true; owed = false }
