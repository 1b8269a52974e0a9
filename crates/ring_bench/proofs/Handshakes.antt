-- A controller that serves.
use Rattle.std.proofs.Common.{◌≡◌, true, false, refl}
use Rattle.std.proofs.lemmas.Bool.{false≢true}
use Rattle.ring_model.specs.declared.states.ControllerState.{ControllerState}
use Rattle.ring_model.specs.declared.states.ControllerState.TheVariants.{Off, Serving, Ended}
use Rattle.ring_model.specs.shared.Handshakes.{is_ended, is_serving}

pub serving_on : (state : ControllerState) → is_serving state ≡ true → is_ended state ≡ false
serving_on Off e = absurd (false≢true e)
serving_on Serving e = refl
serving_on Ended e = absurd (false≢true e)
