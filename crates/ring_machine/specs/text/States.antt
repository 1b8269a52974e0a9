-- The printed words of the states of driver and controller.
use Rattle.std.specs.Prelude.{List, ℕ, codes}
use Rattle.ring_model.specs.declared.states.ControllerState.{ControllerState}
use Rattle.ring_model.specs.declared.states.ControllerState.TheVariants.{Off, Serving, Ended}
use Rattle.ring_model.specs.declared.states.DriverState.{DriverState}
use Rattle.ring_model.specs.declared.states.DriverState.TheVariants.{New, Asked, On, Stopping, Stopped, Cleared, Tailed}

abbrev pub driver_word : DriverState → List ℕ
driver_word New = codes "New"
driver_word Asked = codes "Asked"
driver_word On = codes "On"
driver_word Stopping = codes "Stopping"
driver_word Stopped = codes "Stopped"
driver_word Cleared = codes "Cleared"
driver_word Tailed = codes "Tailed"

abbrev pub controller_word : ControllerState → List ℕ
controller_word Off = codes "off"
controller_word Serving = codes "serving"
controller_word Ended = codes "ended"
