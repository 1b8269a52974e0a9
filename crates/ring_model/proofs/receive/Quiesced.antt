-- When a receive ring's controller is over: it has ended, or it serves and said that it is quiet.
use Rattle.std.proofs.Common.{◌≡◌, ◌⊎◌, inl, inr, ⊎_elim, ℕ, Bool, true, false, not, ◌&&◌, ◌||◌, Option, Some, None, refl, ap, ◌∙◌}
use Rattle.std.proofs.lemmas.Bool.{cases_Bool, both_ways, and_parts, and_from, or_cases, or_left, or_right, not_from_false}
use Rattle.ring_model.specs.declared.handshake.Handshake.{Handshake}
use Rattle.ring_model.specs.declared.steps.ControlStep.{ControlStep}
use Rattle.ring_model.specs.shared.Handshakes.{is_ended, is_open, is_serving, has_ended, may_control_step, after_control_step, enables}
use Rattle.ring_model.specs.declared.steps.RxStep.{RxStep}
use Rattle.ring_model.specs.declared.steps.RxStep.TheVariants as rx
use Rattle.ring_model.specs.receive.Ring.{RxRing, due}
use Rattle.ring_model.specs.shared.Segments.{Segment, ends_segment}
use Rattle.ring_model.specs.receive.Steps.{rx_can, rx_changed, rx_settled, took}
use Rattle.ring_model.specs.receive.Laws.{rx_quiesced}
use Rattle.ring_model.proofs.shared.Stepping.{unended}
use Rattle.ring_model.proofs.shared.Fixed.{ended-control_step, ended-enables, serving-control_step, serving-enables}
use Rattle.ring_model.specs.kept.Receive.{IsRxKept}

abbrev pub quiesced : Handshake → Bool → Bool
quiesced h still = has_ended h || (is_serving h.controller && still)

pub quiesced-parts : (h : Handshake) (still : Bool) → quiesced h still ≡ true → (has_ended h ≡ true) ⊎ ((is_serving h.controller ≡ true) × (still ≡ true))
quiesced-parts h still e = ⊎_elim (λ a. inl a) (λ b. let t = and_parts (is_serving h.controller) still b in inr (t.0, t.1)) (or_cases (has_ended h) (is_serving h.controller && still) e)

pub quiesced-ended : (h : Handshake) (still : Bool) → has_ended h ≡ true → quiesced h still ≡ true
quiesced-ended h still e = or_left (has_ended h) (is_serving h.controller && still) e

pub quiesced-quiet : (h : Handshake) (still : Bool) → is_serving h.controller ≡ true → still ≡ true → quiesced h still ≡ true
quiesced-quiet h still serving e = or_right (has_ended h) (is_serving h.controller && still) (and_from (is_serving h.controller) still serving e)

-- a driver that posts no more leaves over what was over
pub quiesced-close : (h g : Handshake) (still : Bool) → g.controller ≡ h.controller → is_open g.driver ≡ false → quiesced h still ≡ true → quiesced g still ≡ true
quiesced-close h g still same closed e = ⊎_elim
    (λ a. let t = and_parts (is_ended h.controller) (not (is_open h.driver)) a in quiesced-ended g still (and_from (is_ended g.controller) (not (is_open g.driver)) (ap is_ended same ∙ t.0) (not_from_false (is_open g.driver) closed)))
    (λ b. quiesced-quiet g still (ap is_serving same ∙ b.0) b.1)
    (quiesced-parts h still e)

module _ {Payload : Type 0} (n : ℕ) (r : RxRing Payload) (k : IsRxKept Payload n r) where
  -- while a buffer is held, the controller is not over
  pub held-unover : r.held ≡ true → rx_quiesced r ≡ false
  held-unover held = let q = k.queue in let o = q.order in ⊎_elim
      (λ e. absurd (⊎_elim (λ a. unended r.handshake (o.held_serving held) a) (λ b. both_ways r.held (k.at_rest b.1) held) (quiesced-parts r.handshake r.still e)))
      (λ e. e)
      (cases_Bool (rx_quiesced r))

  still_stays : (enabling : Bool) → enabling ≡ false → r.still ≡ true → (not enabling && r.still) ≡ true
  still_stays enabling none e = and_from (not enabling) r.still (not_from_false enabling none) e

  -- the handshake leaves over what was over
  pub quiesced-control_step : (c : ControlStep) → may_control_step r.handshake c (rx_settled r) ≡ true → rx_quiesced r ≡ true → quiesced (after_control_step r.handshake c) (not (enables r.handshake c) && r.still) ≡ true
  quiesced-control_step c may e = ⊎_elim
      (λ a. quiesced-ended (after_control_step r.handshake c) (not (enables r.handshake c) && r.still) (ended-control_step n ends_segment r.queue k.queue c (rx_settled r) may a))
      (λ b. ⊎_elim
      (λ s. quiesced-quiet (after_control_step r.handshake c) (not (enables r.handshake c) && r.still) s.0 (still_stays (enables r.handshake c) s.1 b.1))
      (λ f. quiesced-ended (after_control_step r.handshake c) (not (enables r.handshake c) && r.still) f)
      (serving-control_step n ends_segment r.queue k.queue c (rx_settled r) may b.0))
      (quiesced-parts r.handshake r.still e)

  -- a controller that is over answers no enabling, so that it said that it is quiet stays
  pub quiesced-still : (c : ControlStep) → rx_quiesced r ≡ true → r.still ≡ true → (not (enables r.handshake c) && r.still) ≡ true
  quiesced-still c e said = still_stays (enables r.handshake c)
      (⊎_elim (λ a. ended-enables n ends_segment r.queue k.queue c a) (λ b. serving-enables n ends_segment r.queue k.queue c b.0) (quiesced-parts r.handshake r.still e)) said

  took-still : (found : Option (Segment Payload)) → (took r found).still ≡ r.still
  took-still None = refl
  took-still (Some s) = refl

  -- what a controller said that is over stays, whatever step is made
  pub said-stays : (s : RxStep Payload) → rx_can r s ≡ true → rx_quiesced r ≡ true → r.still ≡ true → (rx_changed r s).still ≡ true
  said-stays rx.Take may e said = took-still (due r) ∙ said
  said-stays (rx.Control c) may e said = quiesced-still c e said
  said-stays rx.StoreQuiet may e said = refl
  said-stays _ may e said = said
