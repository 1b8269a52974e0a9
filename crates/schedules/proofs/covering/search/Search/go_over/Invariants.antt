-- The search stays in its scope.
use Rattle.std.proofs.Common.{◌≡◌}
use Rattle.schedules.proofs.covering.search.Search.go_over.Given as goal

abbrev pub invariant-loop-action : goal.invariant-loop-action
invariant-loop-action l = l.self ≡ l.initial.self
