-- So many lists are shown; and there can be such queues, if there was one.
use Rattle.std.proofs.Common.{◌≤◌}
use Rattle.std.specs.String.{string_bytes}
use Rattle.ring_machine.specs.Queues.{AreQueues}
use Rattle.schedule_command.proofs.Printing.{ShownSoFar}
use Rattle.schedule_command.proofs.answering.contents_of.Given as goal

abbrev pub invariant-loop-number : goal.invariant-loop-number
invariant-loop-number l = record {
  so_far : ShownSoFar l.request l.number (string_bytes l.contents);
  able : 1 ≤ l.number → ((AreQueues l.request.plan.pairs l.request.plan.ring → ⊥) → ⊥);
}
