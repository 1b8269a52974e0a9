-- One step more is a schedule longer by one.
use Rattle.std.proofs.Common.{arith}
use Rattle.ring_machine.specs.receive.Machine.{RxRuns}
use Rattle.ring_machine.proofs.shared.Running.{runs-longer}
use Rattle.ring_machine.proofs.receive.Running.{rx_runs-answer, rx_runs-append, rx_runs-nil}
use Rattle.ring_machine.proofs.machine.receive.RxMachine.run.Goals as goal

pub loop-step-init : goal.loop-step-init
loop-step-init c = record { count = omega arith; runs = rx_runs-nil c.args.self.now }

pub loop-step-preserved : goal.loop-step-preserved
loop-step-preserved c = record { count = omega (arith, c.count_of-made.ensures.one); runs = runs-longer RxRuns rx_runs-append c.args.self.now c.loop-step.self c.step.new.self c.args.steps.now c.loop-step.step-index c.step-item.result c.loop-step.made c.count_of-made.result (omega arith) c.step-item.is c.loop-step.invariant.runs (rw c.count_of-made.ensures.value (rx_runs-answer c.loop-step.self c.step.new.self c.step-item.result c.step.result c.step.ensures.follows)) }
