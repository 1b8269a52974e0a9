-- Both ends are of the ring, the controller holds no buffer, and what the driver has out is out of the stock.
use Rattle.std.proofs.Common.{◌≡◌, None}
use Rattle.buffer_pool.specs.Stocked.{Shares}
use Rattle.limits.specs.RingLength.{IsRingLength}
use Rattle.rx_ring.specs.Ends.{held}
use Rattle.rx_ring.specs.Meeting.{out_of}
use Rattle.examples.proofs.closing.closed.Given as goal

abbrev pub invariant-loop : goal.invariant-loop
invariant-loop l = record {
  driver : l.driver.table ≡ l.ring;
  controller : l.controller.table ≡ l.ring;
  size : IsRingLength l.ring.slots;
  free : held l.controller ≡ None;
  shared : Shares l.stock (out_of l.driver);
}

abbrev pub invariant-loop-2 : goal.invariant-loop-2
invariant-loop-2 l = record {
  driver : l.driver.table ≡ l.ring;
  controller : l.controller.table ≡ l.ring;
  size : IsRingLength l.ring.slots;
  free : held l.controller ≡ None;
  shared : Shares l.stock (out_of l.driver);
}
