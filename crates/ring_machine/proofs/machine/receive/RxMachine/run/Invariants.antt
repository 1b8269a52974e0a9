-- After so many steps the machine has run their schedule.
use Rattle.std.proofs.Common.{◌≤◌, take}
use Rattle.ring_machine.specs.receive.Machine.{RxRuns}
use Rattle.ring_machine.proofs.machine.receive.RxMachine.run.Given as goal

abbrev pub invariant-loop-step : goal.invariant-loop-step
invariant-loop-step l = record { count : l.made ≤ l.step-index; runs : RxRuns l.initial.self (take l.step-index l.steps) l.made l.self }
