use Rattle.std.proofs.Common.{◌≡◌, length}
use Rattle.buffer_pool.specs.Stocked.{Shares}
use Rattle.poll82599_c.proofs.batches.pool.pool_of.Given as goal

abbrev pub invariant-loop-buf : goal.invariant-loop-buf
invariant-loop-buf l = record {
  first : l.stock.first ≡ 0;
  count : l.stock.count ≡ l.buffers;
  shared : Shares l.stock l.pool;
}

abbrev pub decreases-loop-buf : goal.decreases-loop-buf
decreases-loop-buf l = length l.stock.numbers
