use Rattle.pool.specs.Owned.{IsOf}
use Rattle.part_tests.proofs.tests.pools.drained.Given as goal

abbrev pub invariant-loop-turn : goal.invariant-loop-turn
invariant-loop-turn g l = IsOf l.pool l.pass
