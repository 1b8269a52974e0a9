-- What a transmit machine tells from its places and words is what its ring tells: whether a step can happen, and the note.
use Rattle.std.proofs.Common.{◌≡◌, ℕ, zero, suc, ◌+◌, ◌-◌, ◌%◌, ◌^◌, ◌<◌, ◌≤◌, Bool, true, false, not, ◌&&◌, Option, Some, None, sym, refl, ap, ◌∙◌, arith, if◌then◌else◌}
use Rattle.std.specs.Prelude.{slice_get, slice_index, ◌==◌, nat_lt, nat_le, Ok}
use Rattle.std.proofs.lemmas.Bool.{and_from, and_parts, and_right, ltb-true, leb-true, lt-ltb, le-leb, le-ltb, ne_eqb}
use Rattle.std.proofs.lemmas.Option.{slice_get_within}
use Rattle.ring_model.specs.declared.steps.TxStep.{TxStep}
use Rattle.ring_model.specs.declared.steps.TxStep.TheVariants.{Post, Publish, Look, Fetch, Send, Report, LoadReport, Clean, Control, Reclaim, ClearHead, ClearTail, ClearReport}
use Rattle.ring_model.specs.declared.handshake.Handshake.{Handshake}
use Rattle.ring_model.specs.declared.notes.Note.TheVariants as note
use Rattle.ring_model.specs.shared.Handshakes.{control_value, is_cleared, is_live, is_open, is_serving, is_tailed}
use Rattle.ring_model.specs.shared.Lists.{slot_at}
use Rattle.ring_model.specs.shared.QueueSteps as queue
use Rattle.ring_model.specs.shared.Queue.{posted_count, completed_count, reaped_count, returned_count, is_settled, may}
use Rattle.ring_model.specs.transmit.Ring.{Posting, TxRing, are_whole, ends_posting, next_posting, next_sent, number_of_posting}
use Rattle.ring_model.specs.transmit.Steps.{asks_report, by_head, fetched_segment, first_report, is_there, number_of, oldest_report, report_note, seen_place, tx_can, tx_note_of, tx_settled}
use Rattle.ring_model.specs.transmit.Agreement.{done_word, is_told, posting_word, tx_word}
use Rattle.ring_laws.specs.Lists.{beginning_at}
use Rattle.ring_laws.specs.Places.{ahead, next_place}
use Rattle.ring_laws.specs.Queues.{returned_completed}
use Rattle.ring_model.specs.kept.Transmit.{IsTxKept}
use Rattle.ring_laws.specs.Rings.{first_report-above}
use Rattle.ring_model.specs.shared.Places.{between_places, place_next}
use Rattle.ring_machine.specs.code.Shared.{can_fetch, looks_settled, refused_empty}
use Rattle.ring_machine.specs.transmit.Machine.{TxAgrees, TxParts, buffer_tx, word_tx}
use Rattle.ring_machine.specs.code.Words.{first_asking, place_before, word_asks}
use Rattle.ring_machine.specs.code.Transmit.{is_made, next_slot, oldest_place, report_told, reported_told, sending_told, serve_word, tx_may, tx_told}
use Rattle.ring_machine.proofs.shared.PlaceTests.{and_same, left_told, same_truth}
use Rattle.ring_machine.proofs.shared.Snoc.{found}
use Rattle.ring_machine.proofs.shared.Telling as tell
use Rattle.ring_machine.proofs.transmit.Bits.{before_is, eop_told, first_report-at, len_told, placed, posted_asks, posted_done, rs_told, there_placed}

and_true : (b : Bool) → (true && b && true) ≡ b
and_true true = refl
and_true false = refl

module _ (p : TxParts) (r : TxRing ℕ) (k : IsTxKept ℕ r.size r) (a : TxAgrees p r) where
  pub named : tell.AreNamed {Reaped = ℕ} ends_posting (word_tx (is_told r)) buffer_tx number_of_posting r.queue
  named j x e = refl

  pub moved_on : (place i : ℕ) → place ≡ i % r.size → place_next p.queue.size place ≡ (i + 1) % r.size
  moved_on place i e = tell.moved_on ends_posting (word_tx (is_told r)) buffer_tx number_of_posting p.queue r.queue k.queue a.queue place i e

  pub live_returned : is_live r.handshake.driver ≡ true → returned_count r.queue ≡ reaped_count r.queue
  live_returned live = tell.live_returned ends_posting (word_tx (is_told r)) buffer_tx number_of_posting p.queue r.queue k.queue a.queue live

  clean_is : (is_live p.queue.handshake.driver && not (p.queue.next == p.rep)) ≡ tx_can r Clean
  clean_is = let q = a.queue in let kq = k.queue in let o = kq.order in let s = k.reports in let b = s.reaped_seen in let c = s.seen_reported in let d = s.reported_sent in let e = o.completed_posted in let room = o.room in
      and_same (is_live p.queue.handshake.driver) (is_live r.handshake.driver) (not (p.queue.next == p.rep)) (nat_lt (reaped_count r.queue) r.seen_reported) (ap (λ (h : Handshake). is_live h.driver) q.handshake)
      (λ live. let same = live_returned live in rw (q.next, a.rep, same) (left_told r.size (reaped_count r.queue) r.seen_reported b (omega arith)))

  settled_is : is_serving r.handshake.controller ≡ true → (looks_settled p.queue && not p.owed) ≡ tx_settled r
  settled_is serving = and_same (looks_settled p.queue) (is_settled ends_posting r.queue) (not p.owed) (not r.owed) (tell.settled-is ends_posting (word_tx (is_told r)) buffer_tx number_of_posting p.queue r.queue k.queue a.queue named serving) (λ e. ap not a.owed)

  -- the word of an item that is out
  pub word_is : (j : ℕ) (q : Posting ℕ) → returned_count r.queue ≤ j → slice_get r.ledger.posted j ≡ Some q → slice_index p.queue.words (j % r.size) ≡ posting_word {Payload = ℕ} {Buffer = ℕ} (λ len. len) (λ b. b.number) (is_told r j) q
  word_is j q from e = let agrees = a.queue in let i = agrees.items in i.words j from (slice_get_within r.ledger.posted j q e) ∙ ap (λ (o : Option (Posting ℕ)). word_tx (is_told r) j o (slice_get r.ledger.completed j)) e

  asks_is : (j : ℕ) → returned_count r.queue ≤ j → j < posted_count r.queue → word_asks (slice_index p.queue.words (j % r.size)) ≡ asks_report (slice_get r.ledger.posted j)
  asks_is j from below = let t = found r.ledger.posted j below in ap word_asks (word_is j t.0 from t.1) ∙ posted_asks (is_told r j) t.0 (a.lengths j t.0 from t.1) ∙ ap asks_report (sym t.1)

  scan_step : (j more : ℕ) (asks : Bool) → first_asking p.queue.words r.size ((j + 1) % r.size) more ≡ placed r.size (first_report r.ledger.posted (j + 1) more)
      → (if asks then Some (j % r.size) else first_asking p.queue.words r.size ((j + 1) % r.size) more) ≡ placed r.size (if asks then Some j else first_report r.ledger.posted (j + 1) more)
  scan_step j more true rest = refl
  scan_step j more false rest = rest

  scan : (count j : ℕ) → returned_count r.queue ≤ j → j + count ≤ posted_count r.queue → first_asking p.queue.words r.size (j % r.size) count ≡ placed r.size (first_report r.ledger.posted j count)
  scan zero j from below = refl
  scan (suc more) j from below = rw (asks_is j from (omega arith), next_place r.size j k.queue.places) (scan_step j more (asks_report (slice_get r.ledger.posted j)) (scan more (j + 1) (omega arith) (omega arith)))

  pub oldest_is : is_live r.handshake.driver ≡ true → oldest_place p ≡ placed r.size (oldest_report r)
  oldest_is live = let q = a.queue in let kq = k.queue in let o = kq.order in let s = k.reports in let b = s.reaped_seen in let c = s.seen_reported in let d = s.reported_sent in let e = o.completed_posted in let room = o.room in let same = live_returned live in let some = kq.places in
      let count : between_places p.queue.size p.rep p.queue.fill ≡ posted_count r.queue - r.seen_reported = rw (q.size_is, a.rep, q.fill) (ahead r.size r.seen_reported (posted_count r.queue) (omega arith) (omega arith) (omega arith)) in
      rw (count, q.size_is, a.rep) (scan (posted_count r.queue - r.seen_reported) r.seen_reported (omega arith) (omega arith))

  load_is : (is_live p.queue.handshake.driver && is_there (oldest_place p)) ≡ tx_can r LoadReport
  load_is = and_same (is_live p.queue.handshake.driver) (is_live r.handshake.driver) (is_there (oldest_place p)) (is_there (oldest_report r)) (let q = a.queue in ap (λ (h : Handshake). is_live h.driver) q.handshake)
      (λ live. ap is_there (oldest_is live) ∙ there_placed r.size (oldest_report r))

  -- the machine makes a step exactly where the ring has it
  pub tx_may_is : (s : TxStep (Posting ℕ)) → tx_may p s ≡ tx_can r s
  tx_may_is (Post b) = tell.can_post-is ends_posting (word_tx (is_told r)) buffer_tx number_of_posting p.queue r.queue k.queue a.queue b
  tx_may_is Publish = and_same (is_open p.queue.handshake.driver) (is_open r.handshake.driver) p.ends (are_whole r.ledger.posted) (let q = a.queue in ap (λ (h : Handshake). is_open h.driver) q.handshake) (λ e. a.ends)
  tx_may_is Look = let q = a.queue in ap (λ (h : Handshake). is_serving h.controller) q.handshake
  tx_may_is Fetch = and_same (can_fetch p.queue) (may r.queue queue.Fetch) (not p.owed) (not r.owed) (tell.fetch-is ends_posting (word_tx (is_told r)) buffer_tx number_of_posting p.queue r.queue k.queue a.queue named) (λ e. ap not a.owed)
  tx_may_is Send = ap not (tell.held_told ends_posting (word_tx (is_told r)) buffer_tx number_of_posting p.queue r.queue k.queue a.queue named) ∙ tell.not_not r.held
  tx_may_is Report = a.owed
  tx_may_is LoadReport = load_is
  tx_may_is Clean = clean_is
  tx_may_is (Control c) = tell.control_step-is ends_posting (word_tx (is_told r)) buffer_tx number_of_posting p.queue r.queue k.queue a.queue c (looks_settled p.queue && not p.owed) (tx_settled r) settled_is
  tx_may_is Reclaim = tell.reclaim-is ends_posting (word_tx (is_told r)) buffer_tx number_of_posting p.queue r.queue k.queue a.queue
  tx_may_is ClearHead = tell.clear_head-is ends_posting (word_tx (is_told r)) buffer_tx number_of_posting p.queue r.queue k.queue a.queue
  tx_may_is ClearTail = let q = a.queue in ap (λ (h : Handshake). is_cleared h.driver) q.handshake
  tx_may_is ClearReport = and_same (by_head p.completion) (by_head r.completion) (is_tailed p.queue.handshake.driver) (is_tailed r.handshake.driver) (ap by_head a.completion) (λ e. let q = a.queue in ap (λ (h : Handshake). is_tailed h.driver) q.handshake)

  -- what was not sent was not reported
  pub untold : (j : ℕ) → completed_count r.queue ≤ j → is_told r j ≡ false
  untold j from = let s = k.reports in let b = s.reported_sent in and_right (not (by_head r.completion)) (nat_lt j r.reported) (le-ltb j r.reported (omega arith))

  -- the word of the next item to send is as it was posted, and its length fits
  pub sent_word : (q : Posting ℕ) → is_serving r.handshake.controller ≡ true → slice_get r.ledger.posted (completed_count r.queue) ≡ Some q → serve_word p ≡ tx_word q.payload q.eop q.rs q.paylen
  sent_word q serving e = ap (slice_index p.queue.words) (tell.serve_is ends_posting (word_tx (is_told r)) buffer_tx number_of_posting p.queue r.queue k.queue a.queue serving) ∙ word_is (completed_count r.queue) q (returned_completed r.size ends_posting r.queue k.queue serving) e
      ∙ ap (λ (b : Bool). posting_word {Payload = ℕ} {Buffer = ℕ} (λ len. len) (λ b. b.number) b q) (untold (completed_count r.queue) (omega arith))

  pub sent_length : (q : Posting ℕ) → is_serving r.handshake.controller ≡ true → slice_get r.ledger.posted (completed_count r.queue) ≡ Some q → q.payload < 2 ^ 16
  sent_length q serving e = a.lengths (completed_count r.queue) q (returned_completed r.size ends_posting r.queue k.queue serving) e

  pub held_is : (q : Posting ℕ) → r.held ≡ true → slice_get r.ledger.posted (completed_count r.queue) ≡ Some q → p.queue.held ≡ Some q.number
  held_is q may_send e = tell.held_is ends_posting (word_tx (is_told r)) buffer_tx number_of_posting p.queue r.queue k.queue a.queue named q may_send e

  pub held_found : r.held ≡ true → (q : Posting ℕ) × (slice_get r.ledger.posted (completed_count r.queue) ≡ Some q)
  held_found e = tell.held_found ends_posting (word_tx (is_told r)) buffer_tx number_of_posting p.queue r.queue k.queue a.queue e

  pub fetch_facts : tx_can r Fetch ≡ true → (is_serving r.handshake.controller ≡ true) × (may r.queue queue.Fetch ≡ true)
  fetch_facts e = let t = and_parts (may r.queue queue.Fetch) (not r.owed) e in let u = and_parts (is_serving r.handshake.controller && not r.held) (nat_lt (completed_count r.queue) r.known) t.0 in let v = and_parts (is_serving r.handshake.controller) (not r.held) u.0 in (v.0, t.0)

  pub fetched_found : may r.queue queue.Fetch ≡ true → (q : Posting ℕ) × (slice_get r.ledger.posted (completed_count r.queue) ≡ Some q)
  fetched_found e = tell.fetched_found ends_posting (word_tx (is_told r)) buffer_tx number_of_posting p.queue r.queue k.queue a.queue e

  pub fetched_slot : (q : Posting ℕ) → may r.queue queue.Fetch ≡ true → slice_get r.ledger.posted (completed_count r.queue) ≡ Some q → slot_at p.queue.slots p.queue.serve ≡ Some q.number
  fetched_slot q may_fetch e = tell.fetched_slot ends_posting (word_tx (is_told r)) buffer_tx number_of_posting p.queue r.queue k.queue a.queue named q may_fetch e

  told_sending : (place b word : ℕ) (q : Posting ℕ) → q.payload < 2 ^ 16 → word ≡ tx_word q.payload q.eop q.rs q.paylen → b ≡ q.number → sending_told place word b ≡ note.Sending place (fetched_segment (Some q))
  told_sending place b word q h e n = rw (e, n) (rw (len_told q.payload q.eop q.rs q.paylen h, eop_told q.payload q.eop q.rs q.paylen h, rs_told q.payload q.eop q.rs q.paylen h) refl)

  fetch_note : tx_can r Fetch ≡ true → tx_told p Fetch ≡ Ok (tx_note_of r Fetch)
  fetch_note e = let t = fetch_facts e in let g = fetched_found t.1 in let q : Posting ℕ = g.0 in
      rw (fetched_slot q t.1 g.1) (ap Ok (told_sending p.queue.serve q.number (serve_word p) q (sent_length q t.0 g.1) (sent_word q t.0 g.1) refl)
      ∙ ap (λ (o : Option (Posting ℕ)). Ok (note.Sending p.queue.serve (fetched_segment o))) (sym g.1) ∙ ap (λ (x : ℕ). Ok (note.Sending x (fetched_segment (next_posting r)))) (tell.serve_is ends_posting (word_tx (is_told r)) buffer_tx number_of_posting p.queue r.queue k.queue a.queue t.0))

  send_note : r.held ≡ true → refused_empty (λ b. note.Head (place_next p.queue.size p.queue.serve)) p.queue.held ≡ Ok (note.Head ((completed_count r.queue + 1) % r.size))
  send_note e = let g = held_found e in rw (held_is g.0 e g.1) (ap (λ (x : ℕ). Ok (note.Head x)) (moved_on p.queue.serve (completed_count r.queue) (tell.held_serve_is ends_posting (word_tx (is_told r)) buffer_tx number_of_posting p.queue r.queue k.queue a.queue e)))

  pub owed_serve : r.owed ≡ true → p.queue.serve ≡ completed_count r.queue % r.size
  owed_serve e = let s = k.reports in tell.serve_is ends_posting (word_tx (is_told r)) buffer_tx number_of_posting p.queue r.queue k.queue a.queue (s.owed_serving e)

  pub owed_place : r.owed ≡ true → place_before p.queue.size p.queue.serve ≡ (completed_count r.queue - 1) % r.size
  owed_place e = let s = k.reports in let b = s.owed_last e in let q = a.queue in rw (owed_serve e, q.size_is) (before_is r.size (completed_count r.queue) k.queue.places (omega arith))

  report_note_is : (head : Bool) → r.owed ≡ true → report_told p head ≡ report_note r head
  report_note_is false e = ap note.Place (owed_place e)
  report_note_is true e = ap note.Head (owed_serve e)

  by_completion : (j : ℕ) (head : Bool) → by_head r.completion ≡ head → returned_count r.queue ≤ j → r.seen_reported ≤ j → j < posted_count r.queue → asks_report (slice_get r.ledger.posted j) ≡ true → is_made p (j % r.size) ≡ nat_lt j r.reported
  by_completion j true h from above below asks = let q = a.queue in let kq = k.queue in let o = kq.order in let s = k.reports in let b = s.reaped_seen in let c = s.seen_reported in let d = s.reported_sent in let e = o.completed_posted in let room = o.room in let some = kq.places in
      let one : between_places p.queue.size p.rep (place_next p.queue.size (j % r.size)) ≡ j + 1 - r.seen_reported = rw (moved_on (j % r.size) j refl) (rw (q.size_is, a.rep) (ahead r.size r.seen_reported (j + 1) (omega arith) (omega arith) (omega arith))) in
      let two : between_places p.queue.size p.rep p.report ≡ r.reported - r.seen_reported = rw (a.report h, q.size_is, a.rep) (ahead r.size r.seen_reported r.reported (omega arith) (omega arith) (omega arith)) in
      rw (a.completion, h, one, two) (same_truth (nat_le (j + 1 - r.seen_reported) (r.reported - r.seen_reported)) (nat_lt j r.reported)
      (λ e. let le = leb-true (j + 1 - r.seen_reported) (r.reported - r.seen_reported) e in lt-ltb j r.reported (omega arith))
      (λ e. let lt = ltb-true j r.reported e in le-leb (j + 1 - r.seen_reported) (r.reported - r.seen_reported) (omega arith)))
  by_completion j false h from above below asks = let g = found r.ledger.posted j below in let q : Posting ℕ = g.0 in let rs : q.rs ≡ true = ap asks_report (sym g.1) ∙ asks in
      rw (a.completion, h) (ap (λ (w : ℕ). w == done_word) (word_is j q from g.1) ∙ posted_done (is_told r j) q (a.lengths j q from g.1) ∙ rw (h, rs) (and_true (nat_lt j r.reported)))

  -- the report of the oldest item that asks for one is seen exactly where it is made
  pub made_is : (j : ℕ) → is_live r.handshake.driver ≡ true → oldest_report r ≡ Some j → is_made p (j % r.size) ≡ nat_lt j r.reported
  made_is j live e = let kq = k.queue in let o = kq.order in let s = k.reports in let b = s.reaped_seen in let c = s.seen_reported in let d = s.reported_sent in let f = o.completed_posted in let room = o.room in let same = live_returned live in
      let above = first_report-above r.ledger.posted r.seen_reported (posted_count r.queue - r.seen_reported) j e in let t = first_report-at r.ledger.posted r.seen_reported (posted_count r.queue - r.seen_reported) j e in let below = t.0 in
      by_completion j (by_head r.completion) refl (omega arith) above (omega arith) t.1

  load_note : (o : Option ℕ) → oldest_report r ≡ o → is_live r.handshake.driver ≡ true → reported_told p (placed r.size o) ≡ seen_place r o
  load_note None e live = refl
  load_note (Some j) e live = rw (made_is j live e) refl

  -- what comes out, where the driver looks for completed work
  pub clean_facts : tx_can r Clean ≡ true → (q : Posting ℕ) × (next_sent r ≡ Some q) × (next_slot p ≡ Some q.number) × (may r.queue (queue.Reap q.number) ≡ true)
  clean_facts e = let t = and_parts (is_live r.handshake.driver) (nat_lt (reaped_count r.queue) r.seen_reported) e in let same = live_returned t.0 in let less = ltb-true (reaped_count r.queue) r.seen_reported t.1 in
      let kq = k.queue in let o = kq.order in let s = k.reports in let b = s.seen_reported in let c = s.reported_sent in let d = o.completed_posted in let agrees = a.queue in
      let g = found r.ledger.completed (reaped_count r.queue) (omega arith) in (
        g.0,
        g.1,
        tell.slot_is ends_posting (word_tx (is_told r)) buffer_tx number_of_posting p.queue r.queue k.queue a.queue named (reaped_count r.queue) p.queue.next g.0 (omega arith) (beginning_at r.ledger.completed r.ledger.posted (reaped_count r.queue) g.0 k.sent g.1)
            (and_right r.held (reaped_count r.queue == completed_count r.queue) (ne_eqb (reaped_count r.queue) (completed_count r.queue) (λ e. absurd (omega arith)))) (agrees.next ∙ ap (λ (x : ℕ). x % r.size) same),
        and_from (is_live r.handshake.driver) (nat_lt (reaped_count r.queue) (completed_count r.queue)) t.0 (lt-ltb (reaped_count r.queue) (completed_count r.queue) (omega arith)),
      )

  pub reclaim_facts : tx_can r Reclaim ≡ true → (q : Posting ℕ) × (slice_get r.ledger.posted (returned_count r.queue) ≡ Some q) × (next_slot p ≡ Some q.number)
  reclaim_facts e = let g = tell.reclaimed_found ends_posting (word_tx (is_told r)) buffer_tx number_of_posting p.queue r.queue k.queue a.queue e in (g.0, g.1, tell.reclaimed_slot ends_posting (word_tx (is_told r)) buffer_tx number_of_posting p.queue r.queue k.queue a.queue named g.0 e g.1)

  -- the note is the ring's
  pub tx_told_is : (s : TxStep (Posting ℕ)) → tx_can r s ≡ true → tx_told p s ≡ Ok (tx_note_of r s)
  tx_told_is (Post b) e = let q = a.queue in ap (λ (x : ℕ). Ok (note.Place x)) q.fill
  tx_told_is Publish e = let q = a.queue in ap (λ (x : ℕ). Ok (note.Tail x)) q.fill
  tx_told_is Look e = ap (λ (x : ℕ). Ok (note.Ready x)) (tell.look-count ends_posting (word_tx (is_told r)) buffer_tx number_of_posting p.queue r.queue k.queue a.queue e)
  tx_told_is Fetch e = fetch_note e
  tx_told_is Send e = send_note e
  tx_told_is Report e = rw a.completion (ap Ok (report_note_is (by_head r.completion) e))
  tx_told_is LoadReport e = let t = and_parts (is_live r.handshake.driver) (is_there (oldest_report r)) e in rw (oldest_is t.0) (ap (λ (o : Option ℕ). Ok (note.Reported o)) (load_note (oldest_report r) refl t.0))
  tx_told_is Clean e = let t = clean_facts e in rw t.2 (ap (λ (o : Option (Posting ℕ)). Ok (note.Buffer (number_of o))) (sym t.1))
  tx_told_is (Control c) e = let q = a.queue in ap (λ (h : Handshake). Ok (note.Control (control_value h c))) q.handshake
  tx_told_is Reclaim e = let t = reclaim_facts e in rw t.2 (ap (λ (o : Option (Posting ℕ)). Ok (note.Buffer (number_of o))) (sym t.1))
  tx_told_is ClearHead e = refl
  tx_told_is ClearTail e = refl
  tx_told_is ClearReport e = refl
