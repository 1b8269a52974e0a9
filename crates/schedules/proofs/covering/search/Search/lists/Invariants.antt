use Rattle.std.proofs.Common.{All}
use Rattle.schedules.specs.Lists.{Meets}
use Rattle.schedules.proofs.covering.search.Search.lists.Given as goal

-- each list so far meets its pair
abbrev pub invariant-loop-found : goal.invariant-loop-found
invariant-loop-found l = All (Meets l.fn.self) l.lists.items
