-- What the agreement of a transmit ring allows of its own steps.
use Rattle.std.proofs.Common.{◌≡◌, ℕ, ◌+◌, ◌-◌, ◌%◌, ◌<◌, ◌≤◌, Bool, true, false, if◌then◌else◌, List, [], ◌∷◌, ◌++◌, length, length-append, Option, Some, sym, refl, ap, ◌∙◌, subst, arith, mod-lt}
use Rattle.std.specs.Prelude.{slice_get, slice_index, slice_set, nat_lt}
use Rattle.std.proofs.lemmas.Bool.{ltb-true, false≢true}
use mathlib.Core.Option as maybe
use mathlib.Core.Option.{some}
use Rattle.buffer_pool.specs.Buffer.{Buffer}
use Rattle.ring_model.specs.declared.states.Completion.{Completion}
use Rattle.ring_model.specs.declared.states.Completion.TheVariants.{Status, Head}
use Rattle.ring_model.specs.declared.steps.TxStep.TheVariants as step
use Rattle.ring_model.specs.transmit.Agreement.{done_word}
use Rattle.ring_model.specs.transmit.Ring.{TxRing}
use Rattle.ring_model.specs.transmit.Steps.{by_head, cleaned_one, oldest_report, sent_one, tx_changed, tx_cleared, tx_renewed}
use Rattle.ring_model.specs.shared.Frames.{Bytes}
use Rattle.ring_model.specs.shared.Handshakes.{is_live, is_cleared, is_tailed, is_serving}
use Rattle.ring_model.specs.shared.Queue.{reaped_count, returned_count}
use Rattle.ring_laws.specs.Lists.{beginning_at}
use Rattle.ring_laws.specs.States.{live_unanswered}
use Rattle.ring_laws.specs.Frames.{may_follow_next}
use Rattle.ring_laws.specs.Rings.{seen_sent}
use Rattle.shared_ring.specs.declared.events.DriverEvent.TheVariants as driver
use Rattle.shared_ring.specs.Directions.{Agrees}
use Rattle.shared_ring.specs.LaidOut.{driven}
use Rattle.shared_ring.specs.Own.{MayLoad, MayClear, MayEnd, MayStore, MayReap, SameOut}
use Rattle.shared_ring.specs.Accesses.{load}
use Rattle.shared_ring.specs.Forms.{drive, driver_access}
use Rattle.shared_ring.specs.Tables.{words_of}
use Rattle.shared_ring.proofs.SeatRules.{low}
use Rattle.tx_ring.specs.declared.events.TxDriverOwn.TheVariants.{NoReport, SawReport}
use Rattle.tx_ring.specs.Form.{tx}
use Rattle.tx_ring.specs.Plays.{report_word, reports_item, shows_report, reports_seen, IsPlace, cleans, IsCleaned, ends_epoch, clears_report, sends, reports}
use Rattle.tx_ring.specs.Records.{Posting, TxDriven, TxControlled, DriverStep, ControllerStep, driving, controlling, knowing, outstanding}
use Rattle.tx_ring.specs.Rule.{IsLaidOutAs, filled}
use Rattle.tx_ring.proofs.Lawful.{posting_at, there, state-is, home-out, completed-there, held-there}
use Rattle.tx_ring.proofs.Placing.{keeps_it, unreclaimed}
use Rattle.tx_ring.proofs.Moving.{no_report-laid_out, saw_report-laid_out, clean-laid_out, end_epoch-laid_out, clear_report-laid_out, send-laid_out}
use Rattle.tx_ring.proofs.Reported.{reports-shown, head-place}
use Rattle.tx_ring.proofs.Reporting.{report_status-laid_out, report_head-laid_out}

head-there : (n : ℕ) (mode : Completion) → by_head mode ≡ true → n + 4 < words_of n mode
head-there n Status e = absurd (false≢true e)
head-there n Head e = omega arith

report-within : (n : ℕ) (mode : Completion) (j : ℕ) → 0 < n → report_word n mode j < words_of n mode
report-within n Status j pos = let m : j % n < n = mod-lt j pos in omega arith
report-within n Head j pos = omega arith

-- a look at a report leaves what is posted and what came back
seen-same : (d : TxDriven) (place r : ℕ) (b : Bool) → SameOut d (drive tx d (driver.Own (if b then SawReport place r else NoReport place r)))
seen-same d place r true = record { posted = refl; reaped = refl; reclaimed = refl }
seen-same d place r false = record { posted = refl; reaped = refl; reclaimed = refl }

-- and names its load
seen-names : (n place r : ℕ) (b : Bool) → driver_access tx n (driver.Own (if b then SawReport place r else NoReport place r)) ≡ load place r
seen-names n place r true = refl
seen-names n place r false = refl

module _ (n : ℕ) (mode : Completion) (es : List DriverStep) where
  abbrev d : TxDriven
  d = driving es

  -- B7
  looked : (i j : ℕ) (q : TxRing Bytes) (cs : List ControllerStep) (words : List ℕ) (homes : List (maybe.Option Buffer)) → 1 < n → (l : IsLaidOutAs n mode q es cs words homes) → oldest_report q ≡ Some j → is_live q.handshake.driver ≡ true
      → (made : Bool) → nat_lt j q.reported ≡ made → Agrees tx n mode (es ++ driver.Own (if made then SawReport i (slice_index words i) else NoReport i (slice_index words i)) ∷ []) cs words homes
  looked i j q cs words homes pos l is live true made = (record q { seen_reported = j + 1 }, saw_report-laid_out n mode q es cs words homes pos l j i (slice_index words i) is live (ltb-true j q.reported made))
  looked i j q cs words homes pos l is live false made = (q, no_report-laid_out n mode q es cs words homes pos l i (slice_index words i))

  pub may-report : (i j : ℕ) → 8 ≤ n → outstanding d (knowing es).seen ≡ Some j → i ≡ report_word n mode j → is_live d.state ≡ true → MayLoad tx reports_seen IsPlace n mode es i
  may-report i j big is at live = record {
    word_is = let r = report-within n mode j (omega arith) in omega arith;
    goes = λ q cs words homes pos l. let x = l.learnt in
        let old : oldest_report q ≡ Some j = ap (λ (m : ℕ). outstanding (driven q.queue) m) (sym x.seen) ∙ sym (there n mode q es cs words homes pos l (λ y. outstanding y (knowing es).seen)) ∙ is in
        let on = state-is n mode q es cs words homes pos l is_live true live in
        let shows : shows_report n es i (slice_index words i) ≡ nat_lt j q.reported = ap (λ (o : Option ℕ). reports_item n (knowing es).seen o i (slice_index words i)) is
        ∙ ap (λ (s : ℕ). reports_item n s (Some j) i (slice_index words i)) x.seen ∙ reports-shown n mode q es cs words homes pos l i j old at on in (
          head-place n mode q es cs words homes pos l i j at,
          subst (λ (b : Bool). Agrees tx n mode (es ++ driver.Own (if b then SawReport i (slice_index words i) else NoReport i (slice_index words i)) ∷ []) cs words homes) (sym shows)
              (looked i j q cs words homes pos l old on (nat_lt j q.reported) refl),
        );
    same = λ r. seen-same d i r (shows_report n es i r);
    names = λ r. seen-names n i r (shows_report n es i r);
  }

  -- B8
  pub may-clean : (p : ℕ) → p ≡ (length d.reaped + d.reclaimed) % n → is_live d.state ≡ true → length d.reaped < (knowing es).seen → MayClear tx cleans IsCleaned n mode es p
  may-clean p at live reported = record {
    goes = λ q cs words homes pos l. let x = l.learnt in let k = keeps_it n mode q es cs words homes pos l in let s = seen_sent n q k in let o = k.queue.order in let sp = o.completed_posted in
        let on = state-is n mode q es cs words homes pos l is_live true live in let place : p ≡ returned_count q.queue % n = at ∙ there n mode q es cs words homes pos l (λ y. (length y.reaped + y.reclaimed) % n) in
        let back : returned_count q.queue ≡ reaped_count q.queue = unreclaimed n mode q es cs words homes pos l (live_unanswered q.handshake.driver on) in
        let few : reaped_count q.queue < q.seen_reported = subst (λ (j : ℕ). reaped_count q.queue < j) x.seen (subst (λ (y : TxDriven). length y.reaped < (knowing es).seen) l.driver reported) in
        let y = posting_at q.ledger.completed (reaped_count q.queue) (omega arith) in
        let here : slice_get q.ledger.posted (reaped_count q.queue) ≡ Some y.0 = beginning_at q.ledger.completed q.ledger.posted (reaped_count q.queue) y.0 k.sent y.1 in record {
          buf = filled y.0;
          home = home-out n mode q es cs words homes pos l p place (omega arith) y.0 (λ h f. omega arith) (ap (slice_get q.ledger.posted) back ∙ here);
          told = record { item = y.0; there = subst (λ (z : TxDriven). slice_get z.posted (length z.reaped) ≡ Some y.0) (sym l.driver) here; is = refl };
          agrees = (cleaned_one q (Some y.0), clean-laid_out n mode q es cs words homes pos l y.0 p y.1 place on few);
        };
    back = λ b. record { posted = refl; back = let e = length-append d.reaped (b.number ∷ []) in omega arith };
    names = λ b. refl;
  }

  pub may-end_epoch : by_head mode ≡ false → is_cleared d.state ≡ true → MayEnd tx ends_epoch n mode es (n + 1)
  may-end_epoch alone cleared = record {
    word_is = low n mode (n + 1) (omega arith);
    goes = λ q cs words homes pos l. (tx_cleared q false, end_epoch-laid_out n mode q es cs words homes pos l alone (state-is n mode q es cs words homes pos l is_cleared true cleared));
    gone = record { posted = refl; reaped = refl; reclaimed = refl };
    names = refl;
  }

  pub may-clear_report : by_head mode ≡ true → is_tailed d.state ≡ true → MayEnd tx clears_report n mode es (n + 4)
  may-clear_report more tailed = record {
    word_is = head-there n mode more;
    goes = λ q cs words homes pos l. (tx_renewed q, clear_report-laid_out n mode q es cs words homes pos l more (state-is n mode q es cs words homes pos l is_tailed true tailed));
    gone = record { posted = refl; reaped = refl; reclaimed = refl };
    names = refl;
  }

module _ (n : ℕ) (mode : Completion) (es : List ControllerStep) where
  abbrev c : TxControlled
  c = controlling n es

  -- B5
  pub may-send : (place h : ℕ) (b : Buffer) → place ≡ length c.completed % n → h ≡ (length c.completed + 1) % n → is_serving c.state ≡ true → c.held ≡ Some b → MayReap tx sends n mode es place n h b
  may-send place h b at next serving held = record {
    word_is = low n mode n (omega arith);
    goes = λ q ds words homes pos l. let k = keeps_it n mode q ds es words homes pos l in let t = held-there n mode q ds es words homes pos l b held in let is = t.1.1.0 in let sv = completed-there n mode q ds es words homes pos l serving in
        let follows = may_follow_next n q.ledger.completed q.ledger.posted t.1.0 k.sent is l.follow in let few = follows.follows in
        subst (λ (y : Buffer). Agrees tx n mode ds (es ++ sends n es n h y ∷ []) (slice_set words n h) (slice_set homes place (some y))) (sym t.1.1.1)
        (sent_one q (Some t.1.0), send-laid_out n mode q ds es words homes pos l t.1.0 place h is (at ∙ ap (λ (xs : List Posting). length xs % n) sv) (next ∙ ap (λ (xs : List Posting). (length xs + 1) % n) sv) t.0 few.few_bytes);
    held = refl;
    names = refl;
  }

  -- B6
  pub may-report_status : (p : ℕ) → 8 ≤ n → by_head mode ≡ false → p ≡ (length c.completed - 1) % n → is_serving c.state ≡ true → c.barred ≡ true → MayStore tx reports n mode es p done_word
  may-report_status p big alone at serving owed = record {
    word_is = low n mode p (let m : (length c.completed - 1) % n < n = mod-lt (length c.completed - 1) (omega arith) in omega arith);
    goes = λ q ds words homes pos l. let m = l.controller in
        (tx_changed q step.Report, report_status-laid_out n mode q ds es words homes pos l (sym m.barred ∙ owed) alone p (at ∙ ap (λ (xs : List Posting). (length xs - 1) % n) (completed-there n mode q ds es words homes pos l serving)));
    completed = refl;
    held = refl;
    names = refl;
  }

  pub may-report_head : (h : ℕ) → by_head mode ≡ true → h ≡ length c.completed % n → is_serving c.state ≡ true → c.barred ≡ true → MayStore tx reports n mode es (n + 4) h
  may-report_head h more at serving owed = record {
    word_is = head-there n mode more;
    goes = λ q ds words homes pos l. let m = l.controller in
        (tx_changed q step.Report, report_head-laid_out n mode q ds es words homes pos l (sym m.barred ∙ owed) more h (at ∙ ap (λ (xs : List Posting). length xs % n) (completed-there n mode q ds es words homes pos l serving)));
    completed = refl;
    held = refl;
    names = refl;
  }
