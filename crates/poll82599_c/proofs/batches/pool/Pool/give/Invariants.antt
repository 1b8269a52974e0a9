use Rattle.std.proofs.Common.{◌≡◌, ◌+◌, ◌≤◌, ◌++◌, length}
use Rattle.buffer_pool.specs.declared.stash.TheConstants.{STASH_BUFFERS}
use Rattle.poll82599_c.proofs.batches.pool.Pool.give.Given as goal

abbrev pub invariant-loop-left : goal.invariant-loop-left
invariant-loop-left l = record {
  kept : l.self ++ l.stash ≡ l.fn.self ++ l.fn.stash;
  enough : l.left ≤ length l.self;
  room : length l.stash + l.left ≤ STASH_BUFFERS;
  came : length l.stash + l.left ≡ length l.fn.stash + l.count;
}

abbrev pub decreases-loop-left : goal.decreases-loop-left
decreases-loop-left l = l.left
