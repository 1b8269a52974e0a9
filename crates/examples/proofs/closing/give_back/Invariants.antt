-- What is still to come back is out of the stock, and no blank.
use Rattle.std.proofs.Common.{◌≡◌, length}
use Rattle.std.specs.Vec.Iter.{into_iter_items, into_iter_len}
use Rattle.buffer_pool.specs.Stocked.{Shares}
use Rattle.rx_ring.specs.Meeting.{AllReal, numbers_at}
use Rattle.examples.proofs.closing.give_back.Given as goal

abbrev pub invariant-loop-slot : goal.invariant-loop-slot
invariant-loop-slot l = record {
  shared : Shares l.stock (numbers_at (into_iter_items l.slot-iterator));
  real : AllReal (into_iter_items l.slot-iterator);
  left : into_iter_len l.slot-iterator ≡ length (into_iter_items l.slot-iterator);
}
