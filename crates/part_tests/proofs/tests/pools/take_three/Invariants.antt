use Rattle.pool.specs.Owned.{IsOf}
use Rattle.part_tests.proofs.tests.pools.take_three.Given as goal

abbrev pub invariant-loop-want : goal.invariant-loop-want
invariant-loop-want g l = IsOf l.pool l.pass
