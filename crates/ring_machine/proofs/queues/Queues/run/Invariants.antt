-- After so many moves the queues have run their schedule.
use Rattle.std.proofs.Common.{◌≤◌, take}
use Rattle.ring_machine.specs.Queues.{QueuesRun}
use Rattle.ring_machine.proofs.queues.Queues.run.Given as goal

abbrev pub invariant-loop-action : goal.invariant-loop-action
invariant-loop-action l = record { count : l.made ≤ l.action-index; runs : QueuesRun l.initial.self (take l.action-index l.moves) l.made l.self }
