-- What a receive machine tells from its places and words is what its ring tells: whether a step can happen, and the note.
use Rattle.std.proofs.Common.{◌≡◌, ℕ, ◌/◌, ◌%◌, ◌^◌, ◌<◌, Bool, true, false, not, ◌&&◌, Option, Some, None, sym, refl, ap, ◌∙◌, arith}
use Rattle.std.specs.Prelude.{slice_get, slice_index, ◌==◌, nat_lt, Ok}
use Rattle.std.proofs.lemmas.Bool.{and_parts, and_right, ltb-true, eq-eqb, ne_eqb}
use Rattle.std.proofs.lemmas.Option.{slice_get_within, get_or_from_slice_get}
use Rattle.ring_model.specs.declared.steps.RxStep.{RxStep}
use Rattle.ring_model.specs.declared.steps.RxStep.TheVariants.{Post, Publish, Look, Fetch, Store, Take, Head, Control, Reclaim, StoreQuiet, LoadQuiet, ClearHead, ClearTail, ClearQuiet}
use Rattle.ring_model.specs.declared.handshake.Handshake.{Handshake}
use Rattle.ring_model.specs.declared.notes.Note.TheVariants as note
use Rattle.ring_model.specs.shared.Handshakes.{control_value, is_cleared, is_live, is_open, is_serving, is_tailed}
use Rattle.ring_model.specs.shared.Lists.{slot_at}
use Rattle.ring_model.specs.shared.QueueSteps as queue
use Rattle.ring_model.specs.shared.Queue.{posted_count, completed_count, reaped_count, returned_count, next_head, may}
use Rattle.ring_model.specs.receive.Ring.{RxRing, due, is_whole, next_segment}
use Rattle.ring_model.specs.shared.Segments.{Segment, ends_segment}
use Rattle.ring_model.specs.receive.Steps.{rx_can, rx_note_of, rx_settled, taken_segment}
use Rattle.ring_model.specs.receive.Agreement.{rx_word}
use Rattle.ring_laws.specs.Lists.{number_at}
use Rattle.ring_model.specs.kept.Receive.{IsRxKept}
use Rattle.ring_machine.specs.code.Shared.{are_all_back, can_fetch, is_idle, looks_settled, refused_empty}
use Rattle.ring_machine.specs.receive.Machine.{RxAgrees, RxParts, buffer_rx, word_rx}
use Rattle.ring_machine.specs.code.Receive.{has_dd, has_eop, next_slot, next_word, rx_may, rx_told, take_told}
use Rattle.ring_machine.proofs.shared.PlaceTests.{and_same}
use Rattle.ring_machine.proofs.shared.Telling as tell

-- a write-back's bits
pub dd_set : (len : ℕ) (eop : Bool) → has_dd (rx_word len eop) ≡ true
dd_set len true = eq-eqb (rx_word len true % 2) 1 (omega arith)
dd_set len false = eq-eqb (rx_word len false % 2) 1 (omega arith)

eop_told : (len : ℕ) (eop : Bool) → has_eop (rx_word len eop) ≡ eop
eop_told len true = eq-eqb (rx_word len true / 2 % 2) 1 (omega arith)
eop_told len false = ne_eqb (rx_word len false / 2 % 2) 1 (λ e. absurd (omega arith))

len_told : (len : ℕ) (eop : Bool) → rx_word len eop / 2 ^ 32 ≡ len
len_told len true = omega arith
len_told len false = omega arith

abbrev pub itself : ℕ → ℕ
itself b = b

module _ (p : RxParts) (r : RxRing ℕ) (k : IsRxKept ℕ r.size r) (a : RxAgrees p r) where
  -- a stored segment lies in the buffer that was posted
  named_by : (j b : ℕ) (o : Option (Segment ℕ)) → slice_get r.ledger.posted j ≡ Some b → slice_get r.ledger.completed j ≡ o → buffer_rx (Some b) o ≡ Some b
  named_by j b None e f = refl
  named_by j b (Some s) e f = sym (number_at r.ledger.completed r.ledger.posted j s k.stored f) ∙ e

  pub named : tell.AreNamed ends_segment word_rx buffer_rx itself r.queue
  named j b e = named_by j b (slice_get r.ledger.completed j) e refl

  take_is : (is_live p.queue.handshake.driver && not (are_all_back p.queue)) ≡ rx_can r Take
  take_is = and_same (is_live p.queue.handshake.driver) (is_live r.handshake.driver) (not (are_all_back p.queue)) (nat_lt (reaped_count r.queue) (posted_count r.queue)) (let q = a.queue in ap (λ (h : Handshake). is_live h.driver) q.handshake)
      (λ live. tell.left_is ends_segment word_rx buffer_rx itself p.queue r.queue k.queue a.queue ∙ ap (λ (d : ℕ). nat_lt d (posted_count r.queue)) (tell.live_returned ends_segment word_rx buffer_rx itself p.queue r.queue k.queue a.queue live))

  idle_is : is_idle p.queue ≡ rx_can r Head
  idle_is = tell.idle-is ends_segment word_rx buffer_rx itself p.queue r.queue k.queue a.queue named

  -- the machine makes a step exactly where the ring has it
  pub rx_may_is : (s : RxStep ℕ) → rx_may p s ≡ rx_can r s
  rx_may_is (Post b) = tell.can_post-is ends_segment word_rx buffer_rx itself p.queue r.queue k.queue a.queue b
  rx_may_is Publish = let q = a.queue in ap (λ (h : Handshake). is_open h.driver) q.handshake
  rx_may_is Look = let q = a.queue in ap (λ (h : Handshake). is_serving h.controller) q.handshake
  rx_may_is Fetch = and_same (can_fetch p.queue) (may r.queue queue.Fetch) (not p.still) (not r.still) (tell.fetch-is ends_segment word_rx buffer_rx itself p.queue r.queue k.queue a.queue named) (λ e. ap not a.still)
  rx_may_is (Store x eop) = tell.serve-is ends_segment word_rx buffer_rx itself p.queue r.queue k.queue a.queue named (next_segment r x eop)
  rx_may_is Take = take_is
  rx_may_is Head = idle_is
  rx_may_is (Control c) = tell.control_step-is ends_segment word_rx buffer_rx itself p.queue r.queue k.queue a.queue c (looks_settled p.queue) (rx_settled r) (tell.settled-is ends_segment word_rx buffer_rx itself p.queue r.queue k.queue a.queue named)
  rx_may_is Reclaim = tell.reclaim-is ends_segment word_rx buffer_rx itself p.queue r.queue k.queue a.queue
  rx_may_is StoreQuiet = and_same (is_idle p.queue) (is_serving r.handshake.controller && not r.held) p.queue.whole (is_whole r) idle_is (λ e. let q = a.queue in q.whole)
  rx_may_is LoadQuiet = refl
  rx_may_is ClearHead = tell.clear_head-is ends_segment word_rx buffer_rx itself p.queue r.queue k.queue a.queue
  rx_may_is ClearTail = let q = a.queue in ap (λ (h : Handshake). is_cleared h.driver) q.handshake
  rx_may_is ClearQuiet = let q = a.queue in ap (λ (h : Handshake). is_tailed h.driver) q.handshake

  -- the buffer of an item that was posted
  index_is : (j b : ℕ) → slice_get r.ledger.posted j ≡ Some b → slice_index r.ledger.posted j ≡ b
  index_is j b e = get_or_from_slice_get r.ledger.posted j b 0 e

  pub fetched_slot : rx_can r Fetch ≡ true → slot_at p.queue.slots p.queue.serve ≡ Some (slice_index r.ledger.posted (completed_count r.queue))
  fetched_slot e = let t = and_parts (may r.queue queue.Fetch) (not r.still) e in let g = tell.fetched_found ends_segment word_rx buffer_rx itself p.queue r.queue k.queue a.queue t.0 in
      tell.fetched_slot ends_segment word_rx buffer_rx itself p.queue r.queue k.queue a.queue named g.0 t.0 g.1 ∙ ap Some (sym (index_is (completed_count r.queue) g.0 g.1))

  pub held_is : r.held ≡ true → p.queue.held ≡ Some (slice_index r.ledger.posted (completed_count r.queue))
  held_is e = let g = tell.held_found ends_segment word_rx buffer_rx itself p.queue r.queue k.queue a.queue e in tell.held_is ends_segment word_rx buffer_rx itself p.queue r.queue k.queue a.queue named g.0 e g.1 ∙ ap Some (sym (index_is (completed_count r.queue) g.0 g.1))

  pub reclaimed_slot : rx_can r Reclaim ≡ true → next_slot p ≡ Some (slice_index r.ledger.posted (returned_count r.queue))
  reclaimed_slot e = let g = tell.reclaimed_found ends_segment word_rx buffer_rx itself p.queue r.queue k.queue a.queue e in tell.reclaimed_slot ends_segment word_rx buffer_rx itself p.queue r.queue k.queue a.queue named g.0 e g.1 ∙ ap Some (sym (index_is (returned_count r.queue) g.0 g.1))

  take_facts : rx_can r Take ≡ true → (reaped_count r.queue < posted_count r.queue) × (returned_count r.queue ≡ reaped_count r.queue) × (p.queue.next ≡ reaped_count r.queue % r.size)
  take_facts e = let t = and_parts (is_live r.handshake.driver) (nat_lt (reaped_count r.queue) (posted_count r.queue)) e in let same = tell.live_returned ends_segment word_rx buffer_rx itself p.queue r.queue k.queue a.queue t.0 in let q = a.queue in
      (ltb-true (reaped_count r.queue) (posted_count r.queue) t.1, same, q.next ∙ ap (λ (d : ℕ). d % r.size) same)

  -- the word at the next place tells of the segment that is due, and the slot has its buffer
  pub due_word : (o : Option (Segment ℕ)) → due r ≡ o → rx_can r Take ≡ true → next_word p ≡ word_rx (reaped_count r.queue) (slice_get r.ledger.posted (reaped_count r.queue)) o
  due_word o e may = let t = take_facts may in let q = a.queue in let i = q.items in
      ap (slice_index p.queue.words) t.2 ∙ i.words (reaped_count r.queue) (omega arith) t.0 ∙ ap (λ (g : Option (Segment ℕ)). word_rx (reaped_count r.queue) (slice_get r.ledger.posted (reaped_count r.queue)) g) e

  pub taken_slot : (s : Segment ℕ) → due r ≡ Some s → rx_can r Take ≡ true → next_slot p ≡ Some s.number
  taken_slot s e may = let t = take_facts may in let below = slice_get_within r.ledger.completed (reaped_count r.queue) s e in
      tell.slot_is ends_segment word_rx buffer_rx itself p.queue r.queue k.queue a.queue named (reaped_count r.queue) p.queue.next s.number (omega arith) (number_at r.ledger.completed r.ledger.posted (reaped_count r.queue) s k.stored e)
      (and_right r.held (reaped_count r.queue == completed_count r.queue) (ne_eqb (reaped_count r.queue) (completed_count r.queue) (λ same. absurd (omega arith)))) t.2

  take_note : (o : Option (Segment ℕ)) → due r ≡ o → rx_can r Take ≡ true → take_told p (next_word p) ≡ Ok (note.Taken (taken_segment o))
  take_note None e may = rw (due_word None e may) refl
  take_note (Some s) e may = rw (due_word (Some s) e may) (rw (dd_set s.payload s.eop) (rw (taken_slot s e may) (rw (len_told s.payload s.eop) (rw (eop_told s.payload s.eop) refl))))

  store_note : r.held ≡ true → refused_empty (λ b. note.Place p.queue.serve) p.queue.held ≡ Ok (note.Place (next_head r.queue))
  store_note e = rw (held_is e) (ap (λ (j : ℕ). Ok (note.Place j)) (tell.held_serve_is ends_segment word_rx buffer_rx itself p.queue r.queue k.queue a.queue e))

  fetch_note : rx_can r Fetch ≡ true → rx_told p Fetch ≡ Ok (rx_note_of r Fetch)
  fetch_note e = let t = and_parts (may r.queue queue.Fetch) (not r.still) e in let u = and_parts (is_serving r.handshake.controller && not r.held) (nat_lt (completed_count r.queue) r.known) t.0 in let v = and_parts (is_serving r.handshake.controller) (not r.held) u.0 in
      rw (fetched_slot e) (ap (λ (j : ℕ). Ok (note.Fetched j (slice_index r.ledger.posted (completed_count r.queue)))) (tell.serve_is ends_segment word_rx buffer_rx itself p.queue r.queue k.queue a.queue v.0))

  -- and its note is the ring's
  pub rx_told_is : (s : RxStep ℕ) → rx_can r s ≡ true → rx_told p s ≡ Ok (rx_note_of r s)
  rx_told_is (Post b) e = let q = a.queue in ap (λ (j : ℕ). Ok (note.Place j)) q.fill
  rx_told_is Publish e = let q = a.queue in ap (λ (j : ℕ). Ok (note.Tail j)) q.fill
  rx_told_is Look e = ap (λ (j : ℕ). Ok (note.Free j)) (tell.look-count ends_segment word_rx buffer_rx itself p.queue r.queue k.queue a.queue e)
  rx_told_is Fetch e = fetch_note e
  rx_told_is (Store x eop) e = store_note e
  rx_told_is Take e = take_note (due r) refl e
  rx_told_is Head e = let v = and_parts (is_serving r.handshake.controller) (not r.held) e in ap (λ (j : ℕ). Ok (note.Head j)) (tell.serve_is ends_segment word_rx buffer_rx itself p.queue r.queue k.queue a.queue v.0)
  rx_told_is (Control c) e = let q = a.queue in ap (λ (h : Handshake). Ok (note.Control (control_value h c))) q.handshake
  rx_told_is Reclaim e = rw (reclaimed_slot e) refl
  rx_told_is StoreQuiet e = refl
  rx_told_is LoadQuiet e = ap (λ (j : ℕ). Ok (note.Quiet j)) a.quiet
  rx_told_is ClearHead e = refl
  rx_told_is ClearTail e = refl
  rx_told_is ClearQuiet e = refl
