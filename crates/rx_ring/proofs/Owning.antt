-- What the agreement of a receive ring allows of its own steps.
use Rattle.std.proofs.Common.{◌≡◌, ℕ, ◌+◌, ◌%◌, ◌<◌, ◌≤◌, Bool, true, List, [], ◌∷◌, ◌++◌, length, length-append, Some, None, sym, refl, ap, ◌∙◌, subst, arith, mod-lt}
use Rattle.std.specs.Prelude.{slice_index, slice_set}
use mathlib.Core.Option as maybe
use Rattle.buffer_pool.specs.Buffer.{Buffer, buffer, blank}
use Rattle.ring_model.specs.declared.states.Completion.{Completion}
use Rattle.ring_model.specs.declared.steps.RxStep.TheVariants as step
use Rattle.ring_model.specs.receive.Ring.{due}
use Rattle.ring_model.specs.shared.Segments.{Segment, ends_segment, piece_of}
use Rattle.ring_model.specs.receive.Agreement.{rx_word}
use Rattle.ring_model.specs.receive.Steps.{rx_changed}
use Rattle.ring_model.specs.shared.Frames.{Bytes, Follows, unfinished, ends_frame}
use Rattle.ring_model.specs.shared.Handshakes.{is_live, is_tailed, is_serving}
use Rattle.ring_laws.specs.Queues.{held_below}
use Rattle.shared_ring.specs.Own.{MayLoad, MayTake, MayEnd, MayStore, MayReap}
use Rattle.shared_ring.proofs.SeatRules.{low}
use Rattle.rx_ring.specs.Form.{rx}
use Rattle.rx_ring.specs.Plays.{takes, TakesOut, finds_none, is_done, loads_quiet, IsBit, clears_quiet, writes_back, stores_head, says_quiet}
use Rattle.rx_ring.specs.Records.{RxDriven, RxControlled, DriverStep, ControllerStep, driving, controlling, segment_of}
use Rattle.rx_ring.proofs.Lawful.{lie, state-is, undone, found, serving-there, completed-there, serve-there, unheld-there, held-there, posted-there}
use Rattle.rx_ring.proofs.Moving.{keeps_it, quiet-laid_out, clear_quiet-laid_out, store-laid_out, head-laid_out, say_quiet-laid_out}

module _ (n : ℕ) (mode : Completion) (es : List DriverStep) where
  abbrev d : RxDriven
  d = driving es

  pub may-take : (place : ℕ) → place ≡ (length d.reaped + d.reclaimed) % n → is_live d.state ≡ true → length d.reaped + d.reclaimed < length d.posted → MayTake rx takes TakesOut n mode es finds_none is_done place
  may-take place at live out = record {
    undone = λ q cs words homes pos l f. undone n mode l.reports q es cs words homes pos l.laid_out place at out (state-is n mode l.reports q es cs words homes pos l.laid_out is_live true live) (due q) refl f;
    goes = λ q cs words homes pos l f. found n mode l.reports q es cs words homes pos l.laid_out place at out (state-is n mode l.reports q es cs words homes pos l.laid_out is_live true live) (due q) refl f;
    same = λ r. record { posted = refl; reaped = refl; reclaimed = refl };
    back = λ r b. record { posted = refl; back = let e = length-append d.reaped (segment_of r b ∷ []) in omega arith };
    names_missed = λ r. refl;
    names = λ r b. refl;
  }

  pub may-load_quiet : MayLoad rx loads_quiet IsBit n mode es (n + 3)
  may-load_quiet = record {
    word_is = low n mode (n + 3) (omega arith);
    goes = λ q cs words homes pos l. let m = l.laid_out in let u = m.laid_out in let r = u.registers in (
      (let k = keeps_it n q es cs words homes pos m in let b = k.bit in let e = r.quiet in omega arith),
      lie n mode l.reports q es cs words homes pos m q (es ++ loads_quiet n es (n + 3) (slice_index words (n + 3)) blank ∷ []) cs words homes (quiet-laid_out n q es cs words homes pos m (slice_index words (n + 3)) r.quiet),
    );
    same = λ r. record { posted = refl; reaped = refl; reclaimed = refl };
    names = λ r. refl;
  }

  pub may-clear_quiet : is_tailed d.state ≡ true → MayEnd rx clears_quiet n mode es (n + 3)
  may-clear_quiet tailed = record {
    word_is = low n mode (n + 3) (omega arith);
    goes = λ q cs words homes pos l. let m = l.laid_out in lie n mode l.reports q es cs words homes pos m (rx_changed q step.ClearQuiet) (es ++ clears_quiet n es (n + 3) 0 blank ∷ []) cs (slice_set words (n + 3) 0) homes
        (clear_quiet-laid_out n q es cs words homes pos m (state-is n mode l.reports q es cs words homes pos m is_tailed true tailed));
    gone = record { posted = refl; reaped = refl; reclaimed = refl };
    names = refl;
  }

module _ (n : ℕ) (mode : Completion) (es : List ControllerStep) where
  abbrev c : RxControlled
  c = controlling n es

  pub may-write_back : (big : 8 ≤ n) (place w : ℕ) (b : Buffer) (eop : Bool) → w ≡ rx_word (length b.bytes) eop → place ≡ length c.completed % n → is_serving c.state ≡ true → (h : Buffer) → c.held ≡ Some h → h.number ≡ b.number → b ≡ buffer b.number b.bytes
      → Follows piece_of n (unfinished piece_of c.completed) b.bytes eop → MayReap rx writes_back n mode es place place w b
  may-write_back big place w b eop word at serving h held same real follows = subst (λ (v : ℕ). MayReap rx writes_back n mode es place place v b) (sym word) (record {
    word_is = low n mode place (let m : length c.completed % n < n = mod-lt (length c.completed) (omega arith) in omega arith);
    goes = λ q ds words homes pos l. let m = l.laid_out in let ok = l.reports in let k = keeps_it n q ds es words homes pos m in let sv = completed-there n mode ok q ds es words homes pos m serving in
        let t = held-there n mode ok q ds es words homes pos m h held in
        let number : b.number ≡ slice_index q.ledger.posted (length q.ledger.completed) = sym same ∙ ap (λ (y : Buffer). y.number) t.1 in
        lie n mode ok q ds es words homes pos m (rx_changed q (step.Store b.bytes eop)) ds (es ++ writes_back n es place (rx_word (length b.bytes) eop) b ∷ []) (slice_set words place (rx_word (length b.bytes) eop)) (slice_set homes place (maybe.some b))
        (store-laid_out n q ds es words homes pos m b eop place (serve-there n mode ok q ds es words homes pos m place at serving) t.0 real
        (posted-there n mode ok q ds es words homes pos m (held_below n ends_segment q.queue k.queue t.0) ∙ ap Some (sym number)) number
        (subst (λ (xs : List (Segment Bytes)). Follows piece_of n (unfinished piece_of xs) b.bytes eop) sv follows));
    held = refl;
    names = refl;
  })

  pub may-set_head : (h : ℕ) → h ≡ length c.completed % n → is_serving c.state ≡ true → c.held ≡ None → MayStore rx stores_head n mode es n h
  may-set_head h at serving unheld = record {
    word_is = low n mode n (omega arith);
    goes = λ q ds words homes pos l. let m = l.laid_out in let ok = l.reports in lie n mode ok q ds es words homes pos m (rx_changed q step.Head) ds (es ++ stores_head n es n h blank ∷ []) (slice_set words n h) homes
        (head-laid_out n q ds es words homes pos m h (serve-there n mode ok q ds es words homes pos m h at serving) (serving-there n mode ok q ds es words homes pos m serving) (unheld-there n mode ok q ds es words homes pos m unheld));
    completed = refl;
    held = refl;
    names = refl;
  }

  pub may-say_quiet : is_serving c.state ≡ true → c.held ≡ None → ends_frame ends_segment true c.completed ≡ true → MayStore rx says_quiet n mode es (n + 3) 1
  may-say_quiet serving unheld whole = record {
    word_is = low n mode (n + 3) (omega arith);
    goes = λ q ds words homes pos l. let m = l.laid_out in let ok = l.reports in lie n mode ok q ds es words homes pos m (rx_changed q step.StoreQuiet) ds (es ++ says_quiet n es (n + 3) 1 blank ∷ []) (slice_set words (n + 3) 1) homes
        (say_quiet-laid_out n q ds es words homes pos m (serving-there n mode ok q ds es words homes pos m serving) (unheld-there n mode ok q ds es words homes pos m unheld)
        (sym (ap (ends_frame ends_segment true) (completed-there n mode ok q ds es words homes pos m serving)) ∙ whole));
    completed = refl;
    held = refl;
    names = refl;
  }
