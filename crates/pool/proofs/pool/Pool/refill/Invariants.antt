use Rattle.std.proofs.Common.{◌≤◌, ◌-◌}
use Rattle.pool.specs.Bulk.{Refilled}
use Rattle.pool.specs.Owned.{IsOf}
use Rattle.pool.proofs.pool.Pool.refill.Given as goal

abbrev pub invariant-loop-moved : goal.invariant-loop-moved
invariant-loop-moved g l = record {
  pool : IsOf l.self l.pass;
  some : l.moved ≤ l.k;
  moved : Refilled l.initial.pass.hand l.initial.stash l.moved l.pass.hand l.stash;
}

abbrev pub decreases-loop-moved : goal.decreases-loop-moved
decreases-loop-moved g l = l.k - l.moved
