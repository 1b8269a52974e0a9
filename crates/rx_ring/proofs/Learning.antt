-- What the driver has learnt stays so, whatever step is made.
use Rattle.std.proofs.Common.{◌≡◌, ℕ, zero, suc, ◌+◌, ◌%◌, ◌<◌, ◌≤◌, ⊎_elim, true, ◌&&◌, ◌||◌, List, [], ◌∷◌, ◌++◌, length, Some, None, sym, ap, ◌∙◌, subst, arith, length-append}
use Rattle.std.specs.Prelude.{slice_get, ◌==◌}
use Rattle.std.proofs.lemmas.Bool.{and_parts, or_cases, eqb-true, false≢true}
use Rattle.std.proofs.lemmas.Option.{none-some, slice_get_within}
use Rattle.ring_model.specs.declared.steps.RxStep.{RxStep}
use Rattle.ring_model.specs.shared.Handshakes.{is_answered, is_stopped}
use Rattle.ring_model.specs.shared.Frames.{Bytes}
use Rattle.ring_model.specs.shared.Laws.{SameEpoch}
use Rattle.ring_model.specs.shared.Queue.{completed_count, reaped_count}
use Rattle.ring_model.specs.receive.Laws.{RxLater, rx_quiesced}
use Rattle.ring_model.specs.receive.Ring.{RxRing, due}
use Rattle.ring_model.specs.shared.Segments.{Segment, ends_segment}
use Rattle.ring_model.specs.receive.Steps.{rx_can, rx_changed, took}
use Rattle.ring_model.specs.kept.Receive.{IsRxKept}
use Rattle.ring_laws.specs.Rings.{rx_later-all, quiesced-ended, said-stays}
use Rattle.ring_laws.specs.Schedules.{next-happens}
use Rattle.rx_ring.specs.declared.events.RxDriverOwn.TheVariants.{NotDone, Taken, LoadedQuiet}
use Rattle.rx_ring.specs.Records.{DriverStep, driving, Knowing, unknown, know, know_own, saw_head, knowing, posting, drive_own}
use Rattle.rx_ring.specs.Rule.{Learnt}
use Rattle.shared_ring.proofs.Folds as shared
use Rattle.shared_ring.proofs.Lasting.{within-epoch, answered-ended, head-told}
use Rattle.shared_ring.specs.Records.{undriven}
use Rattle.shared_ring.specs.LaidOut.{driven}

pub knowing-snoc : (es : List DriverStep) (e : DriverStep) → knowing (es ++ e ∷ []) ≡ know (driving es) (knowing es) e
knowing-snoc es e = shared.knowing-snoc posting drive_own saw_head know_own undriven unknown es e

module _ (n : ℕ) (q : RxRing Bytes) (k : IsRxKept Bytes n q) where
  -- no step but a renewal ends the epoch
  pub same-epoch : (s : RxStep Bytes) → rx_can q s ≡ true → (rx_changed q s).past ≡ q.past → SameEpoch q.queue (rx_quiesced q) (rx_changed q s).queue (rx_quiesced (rx_changed q s))
  same-epoch s may past = within-epoch q.queue (rx_quiesced q) (rx_changed q s).queue (rx_quiesced (rx_changed q s)) (subst (λ (p : RxRing Bytes). RxLater q p) (next-happens rx_can rx_changed q s may) (rx_later-all n q (s ∷ []) k)) past

  pub answered_rx_quiesced : is_answered q.handshake.driver ≡ true → rx_quiesced q ≡ true
  answered_rx_quiesced a = quiesced-ended q.handshake q.still (answered-ended n ends_segment q.queue k.queue a)

  module _ (x : Knowing) (l : Learnt n q x) where
    -- a step that leaves what was taken
    pub learnt-on : (p : RxRing Bytes) → SameEpoch q.queue (rx_quiesced q) p.queue (rx_quiesced p) → (rx_quiesced q ≡ true → q.still ≡ true → p.still ≡ true) → p.ledger.reaped ≡ q.ledger.reaped → Learnt n p x
    learnt-on p e stays same = record {
      head = λ place f. let h = l.head place f in let s = e.completed (answered_rx_quiesced h.0) in let g = e.reaped h.0 in (g.1, h.1 ∙ ap (λ (xs : List (Segment Bytes)). length xs % n) (sym s.0));
      quiet = λ f. let s = e.completed (l.quiet f) in s.1;
      said = λ f. stays (l.quiet f) (l.said f);
      drained = λ f. let h = l.drained f in let s = e.completed h.0 in (s.1, ap length same ∙ h.1 ∙ ap length (sym s.0));
    }

    pub learnt-step : (s : RxStep Bytes) → rx_can q s ≡ true → (rx_changed q s).past ≡ q.past → (rx_changed q s).ledger.reaped ≡ q.ledger.reaped → Learnt n (rx_changed q s) x
    learnt-step s may past reaped = learnt-on (rx_changed q s) (same-epoch s may past) (said-stays n q k s may) reaped

    -- the head, once the disabling was seen answered
    pub learnt-head : (w : ℕ) → is_stopped q.handshake.driver ≡ true → w ≡ q.head → Learnt n q (record x { head = Some w })
    learnt-head w stopped e = record {
      head = λ place f. head-told n ends_segment q.queue k.queue w place stopped e f;
      quiet = l.quiet;
      said = l.said;
      drained = l.drained;
    }

    -- nothing was due where no DD was found
    pub learnt-not_done : (p w : ℕ) → due q ≡ None → Learnt n q (know_own (driven q.queue) x (NotDone p w))
    learnt-not_done p w e = record {
      head = l.head;
      quiet = l.quiet;
      said = l.said;
      drained = λ f. ⊎_elim (λ a. l.drained a) (λ b. (l.quiet b, let o = k.queue.order in let gs = o.reaped_completed in let none = none_past q.ledger.completed (reaped_count q.queue) e in omega arith)) (or_cases x.drained x.quiet f);
    }
      where
        none_past : (xs : List (Segment Bytes)) (j : ℕ) → slice_get xs j ≡ None → length xs ≤ j
        none_past [] j f = omega arith
        none_past (y ∷ ys) zero f = absurd (none-some y (sym f))
        none_past (y ∷ ys) (suc j) f = let h = none_past ys j f in omega arith

    quiet_learnt : (w : ℕ) → w ≡ q.quiet → (x.quiet || (w == 1)) ≡ true → rx_quiesced q ≡ true
    quiet_learnt w e f = ⊎_elim (λ a. l.quiet a) (λ b. k.quiet (sym e ∙ eqb-true w 1 b)) (or_cases x.quiet (w == 1) f)

    all_taken : length q.ledger.reaped ≡ length q.ledger.posted → reaped_count q.queue ≡ completed_count q.queue
    all_taken e = let o = k.queue.order in let a = o.reaped_completed in let b = o.completed_posted in omega arith

    pub learnt-quiet : (w : ℕ) → w ≡ q.quiet → Learnt n q (know_own (driven q.queue) x (LoadedQuiet w))
    learnt-quiet w e = record {
      head = l.head;
      quiet = λ f. quiet_learnt w e f;
      said = λ f. ⊎_elim (λ a. l.said a) (λ b. k.said (sym e ∙ eqb-true w 1 b)) (or_cases x.quiet (w == 1) f);
      drained = λ f. ⊎_elim (λ a. l.drained a)
          (λ b. let t = and_parts (x.quiet || (w == 1)) (length q.ledger.reaped == length q.ledger.posted) b in (quiet_learnt w e t.0, all_taken (eqb-true (length q.ledger.reaped) (length q.ledger.posted) t.1)))
          (or_cases x.drained ((x.quiet || (w == 1)) && (length q.ledger.reaped == length q.ledger.posted)) f);
    }

    pub learnt-taken : (s : Segment Bytes) (p w : ℕ) (b : _) → due q ≡ Some s → SameEpoch q.queue (rx_quiesced q) (took q (Some s)).queue (rx_quiesced (took q (Some s))) → Learnt n (took q (Some s)) (know_own (driven q.queue) x (Taken p w b))
    learnt-taken s p w b is e = let below : reaped_count q.queue < completed_count q.queue = slice_get_within q.ledger.completed (reaped_count q.queue) s is in let more = length-append q.ledger.reaped (s ∷ []) in record {
      head = λ place f. let h = l.head place f in let t = e.completed (answered_rx_quiesced h.0) in let g = e.reaped h.0 in (g.1, h.1 ∙ ap (λ (xs : List (Segment Bytes)). length xs % n) (sym t.0));
      quiet = λ f. let t = e.completed (l.quiet f) in t.1;
      said = l.said;
      drained = λ f. ⊎_elim (λ a. let h = l.drained a in let c = h.1 in absurd (omega arith))
          (λ c. let t = and_parts x.quiet (length q.ledger.reaped + 1 == length q.ledger.posted) c in let full = eqb-true (length q.ledger.reaped + 1) (length q.ledger.posted) t.1 in
          let o = k.queue.order in let sp = o.completed_posted in let u = e.completed (l.quiet t.0) in (u.1, omega arith))
          (or_cases x.drained (x.quiet && (length q.ledger.reaped + 1 == length q.ledger.posted)) f);
    }

  pub learnt-unknown : Learnt n q unknown
  learnt-unknown = record { head = λ place f. absurd (none-some place f); quiet = λ f. absurd (false≢true f); said = λ f. absurd (false≢true f); drained = λ f. absurd (false≢true f) }
