-- What the handshake tells of the control word, and of the driver as an enabling is answered.
use Rattle.std.proofs.Common.{ℕ, ◌≤◌, ◌≡◌, true, refl, arith}
use Rattle.std.proofs.lemmas.Bool.{false≢true}
use Rattle.ring_model.specs.declared.states.DriverState.{DriverState}
use Rattle.ring_model.specs.declared.states.DriverState.TheVariants.{New, Asked, On, Stopping, Stopped, Cleared, Tailed}
use Rattle.ring_model.specs.declared.states.ControllerState.{ControllerState}
use Rattle.ring_model.specs.declared.states.ControllerState.TheVariants.{Off, Serving, Ended}
use Rattle.ring_model.specs.shared.Handshakes.{is_open, is_on}
use Rattle.ring_model.specs.shared.Laws.{ControlFits}
use Rattle.shared_ring.specs.LaidOut.{is_early}

-- the control word is one of four
pub control_value : (d : DriverState) (c : ControllerState) (control seen : ℕ) → ControlFits d c control seen → control ≤ 3
control_value New Off control seen h = omega (arith, h.0)
control_value New Serving control seen h = absurd h
control_value New Ended control seen h = omega (arith, h.0)
control_value Asked Off control seen h = omega (arith, h.0)
control_value Asked Serving control seen h = omega (arith, h.0)
control_value Asked Ended control seen h = omega (arith, h.0)
control_value On Off control seen h = absurd h
control_value On Serving control seen h = omega (arith, h.0)
control_value On Ended control seen h = absurd h
control_value Stopping Off control seen h = absurd h
control_value Stopping Serving control seen h = omega (arith, h.0)
control_value Stopping Ended control seen h = omega (arith, h.0)
control_value Stopped Off control seen h = absurd h
control_value Stopped Serving control seen h = absurd h
control_value Stopped Ended control seen h = omega (arith, h.0)
control_value Cleared Off control seen h = absurd h
control_value Cleared Serving control seen h = absurd h
control_value Cleared Ended control seen h = omega (arith, h.0)
control_value Tailed Off control seen h = absurd h
control_value Tailed Serving control seen h = absurd h
control_value Tailed Ended control seen h = omega (arith, h.0)

early_asked : (d : DriverState) → is_open d ≡ true → ¬ (is_on d ≡ true) → is_early d ≡ true
early_asked New e f = refl
early_asked Asked e f = refl
early_asked On e f = absurd (f refl)
early_asked _ e f = absurd (false≢true e)

not_on : (d : DriverState) (s : ControllerState) (control seen : ℕ) → seen ≡ 1 → ControlFits d s control seen → ¬ (is_on d ≡ true)
not_on On Off control seen e h f = h
not_on On Serving control seen e h f = omega (arith, h.1, e)
not_on On Ended control seen e h f = h
not_on _ s control seen e h f = absurd (false≢true f)

-- an enabling is answered before the driver has seen it
pub early_enabling : (d : DriverState) (s : ControllerState) (control seen : ℕ) → seen ≡ 1 → ControlFits d s control seen → is_open d ≡ true → is_early d ≡ true
early_enabling d s control seen e h opened = early_asked d opened (not_on d s control seen e h)
