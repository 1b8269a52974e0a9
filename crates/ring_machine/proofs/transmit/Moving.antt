-- Each move of a transmit machine takes it to what agrees with the ring after the step.
use Rattle.std.proofs.Common.{◌≡◌, ◌≢◌, ℕ, ◌+◌, ◌-◌, ◌%◌, ◌^◌, ◌<◌, ◌≤◌, Bool, true, false, not, ◌&&◌, List, [], ◌∷◌, ◌++◌, length, Option, Some, None, sym, refl, ap, ◌∙◌, ⊎_elim, subst, arith, if◌then◌else◌, length-append, mod-eq_of_lt}
use Rattle.std.specs.Prelude.{slice_get, slice_index, nat_lt, ◌==◌}
use Rattle.std.proofs.lemmas.Bool.{cases_lt, and_from, and_parts, and_right, both_ways, le-ltb, lt-ltb}
use Rattle.std.proofs.lemmas.Option.{none-some, same_Some, slice_get_within}
use Rattle.ring_model.specs.declared.handshake.Handshake.{Handshake}
use Rattle.ring_model.specs.declared.steps.ControlStep.{ControlStep}
use Rattle.ring_model.specs.declared.steps.TxStep.{TxStep}
use Rattle.ring_model.specs.declared.steps.TxStep.TheVariants.{Post, Publish, Look, Fetch, Send, Report, LoadReport, Clean, Control, Reclaim, ClearHead, ClearTail, ClearReport}
use Rattle.ring_model.specs.shared.Handshakes.{enables, is_live, is_serving, is_tailed}
use Rattle.ring_model.specs.shared.QueueSteps as queue
use Rattle.ring_model.specs.shared.Lists.{EachItem}
use Rattle.ring_model.specs.shared.Queue.{completed_count, posted_count, returned_count, by}
use Rattle.ring_model.specs.shared.Agreement.{Agrees, Wrapped, wanted_word}
use Rattle.ring_model.specs.transmit.Ring.{Posting, TxQueue, TxRing, ends_posting, next_posting, next_sent}
use Rattle.ring_model.specs.transmit.Steps.{asks_report, by_head, cleaned_one, is_there, loaded_report, oldest_report, sent_one, tx_can, tx_changed, tx_cleared, tx_renewed, tx_settled}
use Rattle.ring_model.specs.transmit.Agreement.{done_word, is_told, tx_word}
use Rattle.ring_laws.specs.Lists.{beginning_at, slice_get-front}
use Rattle.ring_laws.specs.Places.{each_item-set}
use Rattle.ring_model.specs.kept.Queues.{IsKept}
use Rattle.ring_laws.specs.States.{serving_unanswered}
use Rattle.ring_laws.specs.Queues.{control_fits_of}
use Rattle.ring_model.proofs.shared.Stepping.{kept-clear_tail, kept-complete}
use Rattle.ring_model.specs.kept.Transmit.{IsTxKept}
use Rattle.ring_model.specs.shared.Places.{place_next}
use Rattle.ring_machine.specs.code.Shared.{after_clear_tail, after_serve}
use Rattle.ring_machine.specs.transmit.Machine.{TxAgrees, TxParts, buffer_tx, word_tx}
use Rattle.ring_machine.specs.code.TxSound.{IsTxSound, StepFits}
use Rattle.ring_machine.specs.code.Words.{place_before, word_eop, word_rs}
use Rattle.ring_machine.specs.code.Transmit.{after_load, after_report, after_send, serve_word, tx_after_clear, tx_after_renew, tx_moved}
use Rattle.ring_machine.proofs.shared.Snoc.{ends_frame-snoc, found, snoc_end}
use Rattle.ring_machine.proofs.shared.Slots.{put-here}
use Rattle.ring_machine.proofs.shared.Fitting as fit
use Rattle.ring_machine.proofs.shared.ControlStepping as control_step
use Rattle.ring_machine.proofs.transmit.Bits.{eop_told, placed, rs_told}
use Rattle.ring_machine.proofs.transmit.Telling.{clean_facts, fetch_facts, fetched_found, fetched_slot, held_found, held_is, made_is, moved_on, oldest_is, owed_place, owed_serve, reclaim_facts, sent_length, sent_word, untold}

-- another epoch begins
anew : (p : TxParts) (r : TxRing ℕ) → IsKept r.size ends_posting r.queue → TxAgrees p r → is_tailed r.handshake.driver ≡ true → TxAgrees (tx_after_renew p) (tx_renewed r)
anew p r k a e = let some = k.places in let low = mod-eq_of_lt (let pos : 0 < r.size = omega arith in pos) in record {
  queue = control_step.fits-renew ends_posting (word_tx (is_told r)) buffer_tx p.queue r.queue k a.queue (word_tx (is_told (tx_renewed r))) e;
  completion = a.completion;
  report = λ e. sym low;
  rep = sym low;
  ends = refl;
  owed = a.owed;
  lengths = λ j q x e. absurd (none-some q e);
}

before_below : (n place : ℕ) (first : Bool) → 0 < n → place < n → (place == 0) ≡ first → (if first then n - 1 else (place - 1)) < n
before_below n place true some below e = omega arith
before_below n place false some below e = omega arith

below_before : (n place len : ℕ) → 0 < n → place < n → len ≡ n → place_before n place < len
below_before n place len some below e = rw e (before_below n place (place == 0) some below refl)

module _ (p : TxParts) (r : TxRing ℕ) (k : IsTxKept ℕ r.size r) (a : TxAgrees p r) (sound : IsTxSound p) where
  -- a step of the queue that posts nothing
  rests : (w : Wrapped ℕ) (q : TxQueue ℕ) → q.size ≡ r.size → q.ledger.posted ≡ r.ledger.posted → returned_count r.queue ≤ returned_count q → Agrees {Reaped = ℕ} ends_posting (word_tx (is_told r)) buffer_tx w q
      → TxAgrees (record p { queue = w }) (record r { queue = q })
  rests w q size posted more fits = record {
    queue = fits;
    completion = a.completion;
    report = λ e. a.report e ∙ ap (λ (n : ℕ). r.reported % n) (sym size);
    rep = a.rep ∙ ap (λ (n : ℕ). r.seen_reported % n) (sym size);
    ends = rw posted a.ends;
    owed = a.owed;
    lengths = λ j x from e. a.lengths j x (omega arith) (ap (λ (ps : List (Posting ℕ)). slice_get ps j) (sym posted) ∙ e);
  }

  lengths_post : (b : Posting ℕ) → b.payload < 2 ^ 16 → (j : ℕ) (q : Posting ℕ) → returned_count r.queue ≤ j → slice_get (r.ledger.posted ++ b ∷ []) j ≡ Some q → q.payload < 2 ^ 16
  lengths_post b short j q from e = ⊎_elim
      (λ lt. a.lengths j q from (sym (slice_get-front r.ledger.posted (b ∷ []) j lt) ∙ e))
      (λ le. let len = length-append r.ledger.posted (b ∷ []) in let in_it = slice_get_within (r.ledger.posted ++ b ∷ []) j q e in let at : j ≡ posted_count r.queue = omega arith in
      let same : b ≡ q = same_Some b q (sym (snoc_end r.ledger.posted b) ∙ ap (λ (x : ℕ). slice_get (r.ledger.posted ++ b ∷ []) x) (sym at) ∙ e) in
      subst (λ (x : Posting ℕ). x.payload < 2 ^ 16) same short)
      (cases_lt j (posted_count r.queue))

  moves-post : (b : Posting ℕ) → b.payload < 2 ^ 16 → tx_can r (Post b) ≡ true → TxAgrees (tx_moved p (Post b)) (tx_changed r (Post b))
  moves-post b short e = let kq = k.queue in let o = kq.order in let none = untold p r k a (posted_count r.queue) o.completed_posted in record {
    queue = fit.fits-post ends_posting (word_tx (is_told r)) buffer_tx p.queue r.queue k.queue a.queue sound.queue b b.number (tx_word b.payload b.eop b.rs b.paylen) e (rw none refl) refl;
    completion = a.completion;
    report = a.report;
    rep = a.rep;
    ends = sym (ends_frame-snoc ends_posting true r.ledger.posted b);
    owed = a.owed;
    lengths = lengths_post b short;
  }

  moves-fetch : tx_can r Fetch ≡ true → TxAgrees (tx_moved p Fetch) (tx_changed r Fetch)
  moves-fetch e = let t = fetch_facts p r k a e in let g = fetched_found p r k a t.1 in let q : Posting ℕ = g.0 in
      rests (tx_moved p Fetch).queue (by r.queue queue.Fetch) refl refl (omega arith) (fit.fits-fetch ends_posting (word_tx (is_told r)) buffer_tx p.queue r.queue k.queue a.queue sound.queue q.number t.1 (fetched_slot p r k a q t.1 g.1))

  sent : (q : Posting ℕ) → slice_get r.ledger.posted (completed_count r.queue) ≡ Some q → r.held ≡ true → TxAgrees (after_send p (serve_word p) (Some q.number)) (sent_one r (Some q))
  sent q e held = let kq = k.queue in let o = kq.order in let serving = o.held_serving held in let word = sent_word p r k a q serving e in let short = sent_length p r k a q serving e in
      let none = untold p r k a (completed_count r.queue) (let le : completed_count r.queue ≤ completed_count r.queue = omega arith in le) in
      let eop : q.eop ≡ word_eop (serve_word p) = sym (ap word_eop word ∙ eop_told q.payload q.eop q.rs q.paylen short) in
      let word_of_item : serve_word p ≡ word_tx (is_told r) (completed_count r.queue) (slice_get r.ledger.posted (completed_count r.queue)) (Some q) = rw e (rw none word) in
      let completed = fit.fits-completed ends_posting (word_tx (is_told r)) buffer_tx p.queue r.queue k.queue a.queue sound.queue q None (word_eop (serve_word p)) q.number held eop word_of_item (rw e refl) in record {
        queue = control_step.fits-head ends_posting (word_tx (is_told r)) buffer_tx (after_serve p.queue None (word_eop (serve_word p)) (Some q.number)) (by r.queue (queue.Complete q)) (kept-complete r.size ends_posting r.queue k.queue q held) completed
            (and_from (is_serving r.handshake.controller) true serving refl);
        completion = a.completion;
        report = a.report;
        rep = a.rep;
        ends = a.ends;
        owed = ap word_rs word ∙ rs_told q.payload q.eop q.rs q.paylen short;
        lengths = a.lengths;
      }

  moves-send : r.held ≡ true → TxAgrees (tx_moved p Send) (sent_one r (next_posting r))
  moves-send held = let g = held_found p r k a held in rw g.1 (subst (λ (o : Option ℕ). TxAgrees (after_send p (serve_word p) o) (sent_one r (Some g.0))) (sym (held_is p r k a g.0 held g.1)) (sent g.0 g.1 held))

  -- an item that asks for a report and is not the one that is owed is reported, or not sent
  other_sent : (j : ℕ) (q : Posting ℕ) → r.owed ≡ true → j ≢ (completed_count r.queue - 1) → slice_get r.ledger.posted j ≡ Some q → q.rs ≡ true → nat_lt j (completed_count r.queue) ≡ nat_lt j r.reported
  other_sent j q owed ne e asks = let s = k.reports in let b = s.reported_sent in ⊎_elim
      (λ lt. lt-ltb j (completed_count r.queue) (omega arith) ∙ sym (lt-ltb j r.reported lt))
      (λ ge. ⊎_elim
      (λ inside. let g = found r.ledger.completed j inside in let same = beginning_at r.ledger.completed r.ledger.posted j g.0 k.sent g.1 in
      let silent : asks_report (slice_get r.ledger.completed j) ≡ false = s.silent j ge inside (λ _. omega arith) in
      let rs : asks_report (slice_get r.ledger.completed j) ≡ true = ap asks_report (g.1 ∙ sym same ∙ e) ∙ asks in absurd (both_ways (asks_report (slice_get r.ledger.completed j)) silent rs))
      (λ past. le-ltb j (completed_count r.queue) past ∙ sym (le-ltb j r.reported (omega arith)))
      (cases_lt j (completed_count r.queue)))
      (cases_lt j r.reported)

  rest_told : (j : ℕ) (q : Posting ℕ) (asks : Bool) → q.rs ≡ asks → r.owed ≡ true → j ≢ (completed_count r.queue - 1) → slice_get r.ledger.posted j ≡ Some q
      → ((not (by_head r.completion) && nat_lt j (completed_count r.queue)) && q.rs) ≡ ((not (by_head r.completion) && nat_lt j r.reported) && q.rs)
  rest_told j q true asks owed ne e = ap (λ (b : Bool). (not (by_head r.completion) && b) && q.rs) (other_sent j q owed ne e asks)
  rest_told j q false asks owed ne e = and_right (not (by_head r.completion) && nat_lt j (completed_count r.queue)) q.rs asks ∙ sym (and_right (not (by_head r.completion) && nat_lt j r.reported) q.rs asks)

  -- two reports that matter alike to an item that asks for one give one word
  same_word : (told tells : ℕ → Bool) (j : ℕ) (o : Option (Posting ℕ)) → ((q : Posting ℕ) → o ≡ Some q → (told j && q.rs) ≡ (tells j && q.rs)) → word_tx told j o (slice_get r.ledger.completed j) ≡ word_tx tells j o (slice_get r.ledger.completed j)
  same_word told tells j None e = refl
  same_word told tells j (Some q) e = ap (λ (x : Bool). if x then done_word else tx_word q.payload q.eop q.rs q.paylen) (e q refl)

  -- the ring with its report made
  abbrev made : TxRing ℕ
  made = record r { reported = completed_count r.queue; owed = false }

  -- the same queue, whose words tell of other reports
  resaid : (words : List ℕ) (told : ℕ → Bool) → EachItem r.size (returned_count r.queue) (posted_count r.queue) (slice_index words) (wanted_word {Reaped = ℕ} (word_tx told) buffer_tx r.queue)
      → Agrees {Reaped = ℕ} ends_posting (word_tx told) buffer_tx (record p.queue { words = words }) r.queue
  resaid words told buffer_of_item = let q = a.queue in let i = q.items in record {
    size_is = q.size_is;
    head = q.head;
    tail = q.tail;
    items = record { words = buffer_of_item; slots = i.slots };
    empty = q.empty;
    fill = q.fill;
    next = q.next;
    serve = q.serve;
    known = q.known;
    held = q.held;
    whole = q.whole;
    handshake = q.handshake;
  }

  reported : (head : Bool) → by_head r.completion ≡ head → r.owed ≡ true → TxAgrees (after_report p head) made
  reported false h owed = let q = a.queue in let i = q.items in let s = k.reports in let kq = k.queue in let o = kq.order in let b = s.owed_last owed in let c = s.reaped_seen in let d = s.seen_reported in let e = o.completed_posted in
      let serving = s.owed_serving owed in let none = o.not_reclaimed (serving_unanswered r.handshake.driver r.handshake.controller r.handshake.control r.handshake.seen serving (control_fits_of r.size ends_posting r.queue k.queue)) in
      let at = owed_place p r k a owed in let below : place_before p.queue.size p.queue.serve < length p.queue.words = let l = sound.queue in let w = l.words in let some = l.some_places in let v = l.serve in below_before p.queue.size p.queue.serve (length p.queue.words) (omega arith) v w in
      let w = fit.word-writes ends_posting (word_tx (is_told r)) buffer_tx p.queue r.queue k.queue a.queue sound.queue (completed_count r.queue - 1) (place_before p.queue.size p.queue.serve) done_word (Some done_word) at (put-here p.queue.words (place_before p.queue.size p.queue.serve) done_word below) in
      let g = found r.ledger.completed (completed_count r.queue - 1) (omega arith) in let x : Posting ℕ = g.0 in let posted = beginning_at r.ledger.completed r.ledger.posted (completed_count r.queue - 1) x k.sent g.1 in
      let asks : x.rs ≡ true = ap asks_report (sym g.1) ∙ s.asked owed in let lt : nat_lt (completed_count r.queue - 1) (completed_count r.queue) ≡ true = lt-ltb (completed_count r.queue - 1) (completed_count r.queue) (omega arith) in
      let here : word_tx (is_told made) (completed_count r.queue - 1) (slice_get r.ledger.posted (completed_count r.queue - 1)) (slice_get r.ledger.completed (completed_count r.queue - 1)) ≡ done_word = rw (posted, h, lt, asks) refl in record {
        queue = resaid (after_report p false).queue.words (is_told made) (each_item-set r.size (returned_count r.queue) (posted_count r.queue) (completed_count r.queue - 1) (slice_index p.queue.words) (slice_index (after_report p false).queue.words)
            (wanted_word {Reaped = ℕ} (word_tx (is_told r)) buffer_tx r.queue) (wanted_word {Reaped = ℕ} (word_tx (is_told made)) buffer_tx r.queue) (fit.pos ends_posting (word_tx (is_told r)) buffer_tx p.queue r.queue k.queue a.queue sound.queue) (fit.within ends_posting (word_tx (is_told r)) buffer_tx p.queue r.queue k.queue a.queue sound.queue) (omega arith) (omega arith)
            (record { here = w.here ∙ sym here; rest = w.rest }) (λ j f l ne. same_word (is_told made) (is_told r) j (slice_get r.ledger.posted j) (λ z e. rest_told j z z.rs refl owed ne e)) i.words);
        completion = a.completion;
        report = λ e. absurd (both_ways (by_head r.completion) h e);
        rep = a.rep;
        ends = a.ends;
        owed = refl;
        lengths = a.lengths;
      }
  reported true h owed = let q = a.queue in let i = q.items in record {
    queue = resaid p.queue.words (is_told made) (λ j f l. i.words j f l ∙ same_word (is_told r) (is_told made) j (slice_get r.ledger.posted j)
        (λ z e. ap (λ (b : Bool). (not b && nat_lt j r.reported) && z.rs) h ∙ sym (ap (λ (b : Bool). (not b && nat_lt j (completed_count r.queue)) && z.rs) h)));
    completion = a.completion;
    report = λ e. owed_serve p r k a owed;
    rep = a.rep;
    ends = a.ends;
    owed = refl;
    lengths = a.lengths;
  }

  moves-report : r.owed ≡ true → TxAgrees (tx_moved p Report) (tx_changed r Report)
  moves-report e = subst (λ (b : Bool). TxAgrees (after_report p b) made) (sym (ap by_head a.completion)) (reported (by_head r.completion) refl e)

  loaded_if : (j : ℕ) (seen : Bool) → TxAgrees (if seen then record p { rep = place_next p.queue.size (j % r.size) } else p) (if seen then record r { seen_reported = j + 1 } else r)
  loaded_if j false = a
  loaded_if j true = record {
    queue = a.queue;
    completion = a.completion;
    report = a.report;
    rep = moved_on p r k a (j % r.size) j refl;
    ends = a.ends;
    owed = a.owed;
    lengths = a.lengths;
  }

  loaded : (o : Option ℕ) → oldest_report r ≡ o → is_live r.handshake.driver ≡ true → TxAgrees (after_load p (placed r.size o)) (loaded_report r o)
  loaded None e live = a
  loaded (Some j) e live = rw (made_is p r k a j live e) (loaded_if j (nat_lt j r.reported))

  moves-load : tx_can r LoadReport ≡ true → TxAgrees (tx_moved p LoadReport) (loaded_report r (oldest_report r))
  moves-load e = let t = and_parts (is_live r.handshake.driver) (is_there (oldest_report r)) e in rw (oldest_is p r k a t.0) (loaded (oldest_report r) refl t.0)

  moves-clean : tx_can r Clean ≡ true → TxAgrees (tx_moved p Clean) (cleaned_one r (next_sent r))
  moves-clean e = let t = clean_facts p r k a e in let q : Posting ℕ = t.0 in let len = length-append r.ledger.reaped (q.number ∷ []) in rw t.1
      (rests (tx_moved p Clean).queue (by r.queue (queue.Reap q.number)) refl refl (omega arith) (fit.fits-reap ends_posting (word_tx (is_told r)) buffer_tx p.queue r.queue k.queue a.queue sound.queue q.number (Some 0) q.number t.3 t.2))

  moves-reclaim : tx_can r Reclaim ≡ true → TxAgrees (tx_moved p Reclaim) (tx_changed r Reclaim)
  moves-reclaim e = let t = reclaim_facts p r k a e in let q : Posting ℕ = t.0 in
      rests (tx_moved p Reclaim).queue (by r.queue queue.Reclaim) refl refl (omega arith) (fit.fits-reclaim ends_posting (word_tx (is_told r)) buffer_tx p.queue r.queue k.queue a.queue sound.queue (Some 0) q.number e t.2)

  moves-control : (c : ControlStep) → tx_can r (Control c) ≡ true → TxAgrees (tx_moved p (Control c)) (tx_changed r (Control c))
  moves-control c e = let q = a.queue in record {
    queue = control_step.fits-control_step ends_posting (word_tx (is_told r)) buffer_tx p.queue r.queue k.queue a.queue c (tx_settled r) e;
    completion = a.completion;
    report = a.report;
    rep = a.rep;
    ends = a.ends;
    owed = ap (λ (h : Handshake). not (enables h c) && p.owed) q.handshake ∙ ap (λ (b : Bool). not (enables r.handshake c) && b) a.owed;
    lengths = a.lengths;
  }

  clears_tail : tx_can r ClearTail ≡ true → TxAgrees (record p { queue = after_clear_tail p.queue }) (record r { queue = by r.queue queue.ClearTail })
  clears_tail e = rests (after_clear_tail p.queue) (by r.queue queue.ClearTail) refl refl (omega arith) (control_step.fits-clear_tail ends_posting (word_tx (is_told r)) buffer_tx p.queue r.queue k.queue a.queue e)

  cleared : (head : Bool) → tx_can r ClearTail ≡ true → TxAgrees (tx_after_clear p head) (tx_cleared r head)
  cleared false e = anew (record p { queue = after_clear_tail p.queue }) (record r { queue = by r.queue queue.ClearTail }) (kept-clear_tail r.size ends_posting r.queue k.queue e) (clears_tail e) refl
  cleared true e = clears_tail e

  pub tx_fits-moved : (s : TxStep (Posting ℕ)) → StepFits s → tx_can r s ≡ true → TxAgrees (tx_moved p s) (tx_changed r s)
  tx_fits-moved (Post b) short e = moves-post b short e
  tx_fits-moved Publish short e = rests (tx_moved p Publish).queue (by r.queue queue.Publish) refl refl (omega arith) (control_step.fits-publish ends_posting (word_tx (is_told r)) buffer_tx p.queue r.queue k.queue a.queue)
  tx_fits-moved Look short e = rests (tx_moved p Look).queue (by r.queue queue.Look) refl refl (omega arith) (control_step.fits-look ends_posting (word_tx (is_told r)) buffer_tx p.queue r.queue k.queue a.queue)
  tx_fits-moved Fetch short e = moves-fetch e
  tx_fits-moved Send short e = moves-send e
  tx_fits-moved Report short e = moves-report e
  tx_fits-moved LoadReport short e = moves-load e
  tx_fits-moved Clean short e = moves-clean e
  tx_fits-moved (Control c) short e = moves-control c e
  tx_fits-moved Reclaim short e = moves-reclaim e
  tx_fits-moved ClearHead short e = rests (tx_moved p ClearHead).queue (by r.queue queue.ClearHead) refl refl (omega arith) (control_step.fits-clear_head ends_posting (word_tx (is_told r)) buffer_tx p.queue r.queue k.queue a.queue e)
  tx_fits-moved ClearTail short e = subst (λ (b : Bool). TxAgrees (tx_after_clear p b) (tx_cleared r (by_head r.completion))) (sym (ap by_head a.completion)) (cleared (by_head r.completion) e)
  tx_fits-moved ClearReport short e = let t = and_parts (by_head r.completion) (is_tailed r.handshake.driver) e in anew p r k.queue a t.1
