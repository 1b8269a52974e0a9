-- What lasts within an epoch, and what a driver knows once it saw its disabling answered.
use Rattle.std.proofs.Common.{◌≡◌, ℕ, ◌%◌, ⊎_elim, Bool, true, not, Some, sym, ap, ◌∙◌}
use Rattle.std.proofs.lemmas.Bool.{and_from, not_from_false}
use Rattle.std.proofs.lemmas.Option.{same_Some}
use Rattle.ring_model.specs.shared.Handshakes.{has_ended, is_answered, is_ended, is_open, is_stopped}
use Rattle.ring_model.specs.shared.Laws.{Later, SameEpoch}
use Rattle.ring_model.specs.shared.Queue.{Queue, completed_count}
use Rattle.ring_model.specs.kept.Queues.{IsKept}
use Rattle.ring_laws.specs.States.{answered_closed, stopped_answered, stopped_full}
use Rattle.ring_laws.specs.Queues.{answered_has_ended}
use Rattle.shared_ring.proofs.Folds.{longer}

-- no step but a renewal ends the epoch
pub within-epoch : {Posted Completed Reaped : Type 0} (q : Queue Posted Completed Reaped) (quiesced : Bool) (p : Queue Posted Completed Reaped) (still : Bool) → Later q quiesced p still → p.past ≡ q.past → SameEpoch q quiesced p still
within-epoch q quiesced p still later past = ⊎_elim (λ f. absurd (longer q.past f.more f.ended p.past f.past past)) (λ e. e) later

module _ {Posted Completed Reaped : Type 0} (n : ℕ) (ends : Completed → Bool) (q : Queue Posted Completed Reaped) (kept : IsKept n ends q) where
  pub answered-ended : is_answered q.handshake.driver ≡ true → has_ended q.handshake ≡ true
  answered-ended a = and_from (is_ended q.handshake.controller) (not (is_open q.handshake.driver)) (answered_has_ended n ends q kept a) (not_from_false (is_open q.handshake.driver) (answered_closed q.handshake.driver a))

  -- the head that is loaded then tells how many were served
  pub head-told : (w place : ℕ) → is_stopped q.handshake.driver ≡ true → w ≡ q.head → Some w ≡ Some place → (is_answered q.handshake.driver ≡ true) × (place ≡ completed_count q % n)
  head-told w place stopped e f = let a = stopped_answered q.handshake.driver stopped in
      (a, sym (same_Some w place f) ∙ e ∙ kept.told (answered_has_ended n ends q kept a) (answered_closed q.handshake.driver a) (stopped_full q.handshake.driver stopped) ∙ ap (λ (j : ℕ). completed_count q % j) kept.size_is)
