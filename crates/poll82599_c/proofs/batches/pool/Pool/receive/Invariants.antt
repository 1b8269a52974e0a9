use Rattle.std.proofs.Common.{◌≡◌, ◌+◌, ◌≤◌, ◌++◌, length}
use Rattle.poll82599_c.specs.declared.batches.pool.TheConstants.{POOL_BUFFERS}
use Rattle.poll82599_c.proofs.batches.pool.Pool.receive.Given as goal

abbrev pub invariant-loop-left : goal.invariant-loop-left
invariant-loop-left l = record {
  kept : l.self ++ l.stash ≡ l.fn.self ++ l.fn.stash;
  enough : l.left ≤ length l.stash;
  room : length l.self + l.left ≤ POOL_BUFFERS;
  went : length l.fn.stash + l.left ≡ length l.stash + l.count;
}

abbrev pub decreases-loop-left : goal.decreases-loop-left
decreases-loop-left l = l.left
