-- The states of both sides by number, and in words.
use Rattle.std.specs.Prelude.{ℕ, List, ◌++◌, codes}
use Rattle.ring_model.specs.declared.states.DriverState.{DriverState}
use Rattle.ring_model.specs.declared.states.DriverState.TheVariants as driver
use Rattle.ring_model.specs.declared.states.ControllerState.{ControllerState}
use Rattle.ring_model.specs.declared.states.ControllerState.TheVariants as controller
use Rattle.ring_machine.specs.text.Moves.{name_of}
use Rattle.ring_machine.specs.text.States.{controller_word, driver_word}
use Rattle.schedules.specs.declared.covering.pairs.Pair.{Pair}
use Rattle.schedules.specs.OutcomeKind.{outcome_words}

abbrev pub driver_number : DriverState → ℕ
driver_number driver.New = 0
driver_number driver.Asked = 1
driver_number driver.On = 2
driver_number driver.Stopping = 3
driver_number driver.Stopped = 4
driver_number driver.Cleared = 5
driver_number driver.Tailed = 6

abbrev pub controller_number : ControllerState → ℕ
controller_number controller.Off = 0
controller_number controller.Serving = 1
controller_number controller.Ended = 2

abbrev pub states_text : DriverState → ControllerState → List ℕ
states_text d c = codes "driver " ++ driver_word d ++ codes " controller " ++ controller_word c

-- "r0 A6 driver On controller serving: none"
abbrev pub pair_text : Pair → List ℕ
pair_text p = name_of p.action ++ codes " " ++ states_text p.driver p.controller ++ codes ": " ++ outcome_words p.outcome
