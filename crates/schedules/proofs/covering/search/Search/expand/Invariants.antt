-- The search stays in its scope.
use Rattle.std.proofs.Common.{◌≡◌}
use Rattle.schedules.proofs.covering.search.Search.expand.Given as goal

abbrev pub invariant-loop : goal.invariant-loop
invariant-loop l = l.self ≡ l.initial.self
