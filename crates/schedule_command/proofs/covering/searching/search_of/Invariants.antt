-- The search stays in its scope.
use Rattle.std.proofs.Common.{◌≡◌}
use Rattle.schedule_command.proofs.covering.searching.search_of.Given as goal

abbrev pub invariant-loop : goal.invariant-loop
invariant-loop g l = l.search ≡ l.scope
