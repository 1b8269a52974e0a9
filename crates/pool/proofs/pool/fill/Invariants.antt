use Rattle.std.proofs.Common.{◌≡◌, ◌-◌, length}
use Rattle.crossbeam_queue.specs.Passes.{view, IsSamePass}
use Rattle.pool.specs.Hands.{fresh_hand}
use Rattle.pool.proofs.Filling.{IsLeft}
use Rattle.pool.proofs.pool.fill.Given as goal

-- the buffers with the least numbers are in the queue, and the others in the stock
abbrev pub invariant-loop-buf : goal.invariant-loop-buf
invariant-loop-buf g l = record {
  same : IsSamePass l.initial.pass l.pass;
  filled : view l.pass ≡ fresh_hand (l.fn.stock.count - length l.stock.numbers);
  left : IsLeft l.stock l.fn.stock.count;
}

abbrev pub decreases-loop-buf : goal.decreases-loop-buf
decreases-loop-buf g l = length l.stock.numbers
