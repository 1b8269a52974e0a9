-- What a receive queue's machine computes for each step, over its places and words: whether it makes the step, its
-- result, and its next state.
use Rattle.std.specs.Prelude.{ℕ, ◌/◌, ◌%◌, ◌^◌, Bool, true, false, not, ◌&&◌, ◌==◌, Option, Some, None, Result, Ok, is_none, slice_index, if◌then◌else◌}
use Rattle.ring_model.specs.declared.steps.RxStep.{RxStep}
use Rattle.ring_model.specs.declared.steps.RxStep.TheVariants.{Post, Publish, Look, Fetch, Store, Take, Head, Control, Reclaim, StoreQuiet, LoadQuiet, ClearHead, ClearTail, ClearQuiet}
use Rattle.ring_model.specs.declared.notes.Note.{Note}
use Rattle.ring_model.specs.declared.notes.Note.TheVariants as note
use Rattle.ring_model.specs.shared.Handshakes.{control_value, enables, is_cleared, is_live, is_open, is_serving, is_stopped, is_tailed, may_control_step}
use Rattle.ring_model.specs.shared.Lists.{slot_at}
use Rattle.ring_model.specs.receive.Agreement.{rx_word}
use Rattle.refusals.specs.declared.errors.MachineError.{MachineError}
use Rattle.ring_model.specs.shared.Places.{between_places}
use Rattle.ring_machine.specs.code.Shared.{after_clear_head, after_clear_tail, after_fetch, after_head, after_look, after_out, after_post, after_publish, after_renew, after_serve, after_control, are_all_back, begun, can_fetch, can_post, is_idle, looks_settled, refused_empty}
use Rattle.ring_machine.specs.receive.Machine.{RxParts}

abbrev pub rx_may : RxParts → RxStep ℕ → Bool
rx_may p (Post b) = can_post p.queue
rx_may p Publish = is_open p.queue.handshake.driver
rx_may p Look = is_serving p.queue.handshake.controller
rx_may p Fetch = can_fetch p.queue && not p.still
rx_may p (Store x eop) = not (is_none p.queue.held)
rx_may p Take = is_live p.queue.handshake.driver && not (are_all_back p.queue)
rx_may p Head = is_idle p.queue
rx_may p (Control c) = may_control_step p.queue.handshake c (looks_settled p.queue)
rx_may p Reclaim = is_stopped p.queue.handshake.driver && not (are_all_back p.queue)
rx_may p StoreQuiet = is_idle p.queue && p.queue.whole
rx_may p LoadQuiet = true
rx_may p ClearHead = is_stopped p.queue.handshake.driver && are_all_back p.queue
rx_may p ClearTail = is_cleared p.queue.handshake.driver
rx_may p ClearQuiet = is_tailed p.queue.handshake.driver

-- The bits of a write-back's word.
abbrev pub has_dd : ℕ → Bool
has_dd word = word % 2 == 1

abbrev pub has_eop : ℕ → Bool
has_eop word = word / 2 % 2 == 1

abbrev pub taken_told : ℕ → ℕ → Note
taken_told word b = note.Taken (Some (record { buffer = b; len = word / 2 ^ 32; eop = has_eop word }))

-- The word at the next place to take.
abbrev pub next_word : RxParts → ℕ
next_word p = slice_index p.queue.words p.queue.next

-- The buffer in the slot at that place.
abbrev pub next_slot : RxParts → Option ℕ
next_slot p = slot_at p.queue.slots p.queue.next

abbrev pub take_told : RxParts → ℕ → Result Note MachineError
take_told p word = if has_dd word then refused_empty (taken_told word) (next_slot p) else Ok (note.Taken None)

abbrev pub rx_told : RxParts → RxStep ℕ → Result Note MachineError
rx_told p (Post b) = Ok (note.Place p.queue.fill)
rx_told p Publish = Ok (note.Tail p.queue.fill)
rx_told p Look = Ok (note.Free (between_places p.queue.size p.queue.serve p.queue.tail))
rx_told p Fetch = refused_empty (λ b. note.Fetched p.queue.serve b) (slot_at p.queue.slots p.queue.serve)
rx_told p (Store x eop) = refused_empty (λ b. note.Place p.queue.serve) p.queue.held
rx_told p Take = take_told p (next_word p)
rx_told p Head = Ok (note.Head p.queue.serve)
rx_told p (Control c) = Ok (note.Control (control_value p.queue.handshake c))
rx_told p Reclaim = refused_empty note.Buffer (next_slot p)
rx_told p StoreQuiet = Ok (note.Quiet 1)
rx_told p LoadQuiet = Ok (note.Quiet p.quiet)
rx_told p ClearHead = Ok (note.Head 0)
rx_told p ClearTail = Ok (note.Tail 0)
rx_told p ClearQuiet = Ok (note.Quiet 0)

abbrev pub rx_moved : RxParts → RxStep ℕ → RxParts
rx_moved p (Post b) = record p { queue = after_post p.queue b 0 }
rx_moved p Publish = record p { queue = after_publish p.queue }
rx_moved p Look = record p { queue = after_look p.queue }
rx_moved p Fetch = record p { queue = after_fetch p.queue (slot_at p.queue.slots p.queue.serve) }
rx_moved p (Store x eop) = record p { queue = after_serve p.queue (Some (rx_word x eop)) eop p.queue.held }
rx_moved p Take = if has_dd (next_word p) then record p { queue = after_out p.queue None (next_slot p) } else p
rx_moved p Head = record p { queue = after_head p.queue }
rx_moved p (Control c) = record p { queue = after_control p.queue c; still = not (enables p.queue.handshake c) && p.still }
rx_moved p Reclaim = record p { queue = after_out p.queue (Some 0) (next_slot p) }
rx_moved p StoreQuiet = record p { quiet = 1; still = true }
rx_moved p LoadQuiet = p
rx_moved p ClearHead = record p { queue = after_clear_head p.queue }
rx_moved p ClearTail = record p { queue = after_clear_tail p.queue }
rx_moved p ClearQuiet = record p { queue = after_renew p.queue; quiet = 0 }

-- A new machine.
abbrev pub rx_begun : ℕ → Bool → RxParts
rx_begun n enabled = record { queue = begun n enabled; quiet = 0; still = false }
