-- What the driver has learnt stays so, whatever step is made.
use Rattle.std.proofs.Common.{◌≡◌, ℕ, ◌+◌, ◌%◌, true, List, [], ◌∷◌, ◌++◌, length, Some, sym, refl, ap, ◌∙◌, subst}
use Rattle.std.proofs.lemmas.Option.{none-some}
use Rattle.ring_model.specs.declared.steps.TxStep.{TxStep}
use Rattle.ring_model.specs.shared.Handshakes.{is_stopped}
use Rattle.ring_model.specs.shared.Frames.{Bytes}
use Rattle.ring_model.specs.shared.Laws.{SameEpoch}
use Rattle.ring_model.specs.transmit.Laws.{TxLater, tx_quiesced}
use Rattle.ring_model.specs.transmit.Ring.{TxRing, ends_posting}
use Rattle.ring_model.specs.transmit.Steps.{tx_can, tx_changed}
use Rattle.ring_model.specs.kept.Transmit.{IsTxKept}
use Rattle.ring_laws.specs.Rings.{tx_later-all}
use Rattle.ring_laws.specs.Schedules.{next-happens}
use Rattle.tx_ring.specs.Records.{Posting, DriverStep, driving, Knowing, unknown, know, know_own, saw_head, knowing, posting_of, drive_own}
use Rattle.tx_ring.specs.Rule.{Learnt}
use Rattle.shared_ring.proofs.Folds as shared
use Rattle.shared_ring.proofs.Lasting.{within-epoch, answered-ended, head-told}
use Rattle.shared_ring.specs.Records.{undriven}

pub knowing-snoc : (es : List DriverStep) (e : DriverStep) → knowing (es ++ e ∷ []) ≡ know (driving es) (knowing es) e
knowing-snoc es e = shared.knowing-snoc posting_of drive_own saw_head know_own undriven unknown es e

module _ (n : ℕ) (q : TxRing Bytes) (k : IsTxKept Bytes n q) where
  -- no step but a renewal ends the epoch
  pub same-epoch : (s : TxStep Posting) → tx_can q s ≡ true → (tx_changed q s).past ≡ q.past → SameEpoch q.queue (tx_quiesced q) (tx_changed q s).queue (tx_quiesced (tx_changed q s))
  same-epoch s may past = within-epoch q.queue (tx_quiesced q) (tx_changed q s).queue (tx_quiesced (tx_changed q s)) (subst (λ (p : TxRing Bytes). TxLater q p) (next-happens tx_can tx_changed q s may) (tx_later-all n q (s ∷ []) k)) past

  module _ (x : Knowing) (l : Learnt n q x) where
    -- a step within the epoch that shows no report
    pub learnt-step : (s : TxStep Posting) → tx_can q s ≡ true → (tx_changed q s).past ≡ q.past → (tx_changed q s).seen_reported ≡ q.seen_reported → Learnt n (tx_changed q s) x
    learnt-step s may past seen = let e = same-epoch s may past in record {
      head = λ place f. let h = l.head place f in let t = e.completed (answered-ended n ends_posting q.queue k.queue h.0) in let g = e.reaped h.0 in (g.1, h.1 ∙ ap (λ (xs : List Posting). length xs % n) (sym t.0));
      seen = l.seen ∙ sym seen;
    }

    -- the head, once the disabling was seen answered
    pub learnt-head : (w : ℕ) → is_stopped q.handshake.driver ≡ true → w ≡ q.head → Learnt n q (record x { head = Some w })
    learnt-head w stopped e = record {
      head = λ place f. head-told n ends_posting q.queue k.queue w place stopped e f;
      seen = l.seen;
    }

    -- a report that is seen
    pub learnt-report : (j : ℕ) → Learnt n (record q { seen_reported = j + 1 }) (record x { seen = j + 1 })
    learnt-report j = record { head = l.head; seen = refl }

pub learnt-unknown : (n : ℕ) (q : TxRing Bytes) → q.seen_reported ≡ 0 → Learnt n q unknown
learnt-unknown n q e = record { head = λ place f. absurd (none-some place f); seen = sym e }
