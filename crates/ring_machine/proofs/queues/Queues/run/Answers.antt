-- One move more is a schedule longer by one.
use Rattle.std.proofs.Common.{arith}
use Rattle.ring_machine.specs.Queues.{QueuesRun}
use Rattle.ring_machine.proofs.shared.Running.{runs-longer}
use Rattle.ring_machine.proofs.QueuesRunning.{queues_run-answer, queues_run-append, queues_run-nil}
use Rattle.ring_machine.proofs.queues.Queues.run.Goals as goal

pub loop-action-init : goal.loop-action-init
loop-action-init c = record { count = omega arith; runs = queues_run-nil c.args.self.now }

pub loop-action-preserved : goal.loop-action-preserved
loop-action-preserved c = record { count = omega (arith, c.count_of-made.ensures.one); runs = runs-longer QueuesRun queues_run-append c.args.self.now c.loop-action.self c.step.new.self c.args.moves.now c.loop-action.action-index c.action-item.result c.loop-action.made c.count_of-made.result (omega arith) c.action-item.is c.loop-action.invariant.runs (rw c.count_of-made.ensures.value (queues_run-answer c.loop-action.self c.step.new.self c.action-item.result c.step.result c.step.ensures.follows)) }
