-- The pass is the pool's.
use Rattle.pool.specs.Owned.{IsOf}
use Rattle.examples.proofs.worker.work.Given as goal

abbrev pub invariant-loop : goal.invariant-loop
invariant-loop g l = IsOf l.pool l.pass
