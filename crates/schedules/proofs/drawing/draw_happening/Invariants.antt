-- The queues are as they were: what was tried was refused.
use Rattle.std.proofs.Common.{◌≡◌}
use Rattle.schedules.proofs.drawing.draw_happening.Given as goal

abbrev pub invariant-loop : goal.invariant-loop
invariant-loop l = l.queues ≡ l.initial.queues
