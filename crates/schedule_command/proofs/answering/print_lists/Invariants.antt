-- So many lists are printed; and there can be such queues, if there was one.
use Rattle.std.proofs.Common.{◌≤◌}
use Rattle.ring_machine.specs.Queues.{AreQueues}
use Rattle.schedule_command.proofs.Printing.{PrintedSoFar}
use Rattle.schedule_command.proofs.answering.print_lists.Given as goal

abbrev pub invariant-loop-number : goal.invariant-loop-number
invariant-loop-number g l = record {
  so_far : PrintedSoFar l.request l.number (g.W.Write.contents l.initial.output) (g.W.Write.contents l.output);
  able : 1 ≤ l.number → ((AreQueues l.request.plan.pairs l.request.plan.ring → ⊥) → ⊥);
}
