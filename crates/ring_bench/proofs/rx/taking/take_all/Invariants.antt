use Rattle.std.proofs.Common.{◌≡◌, ◌+◌, length}
use Rattle.rx_ring.specs.Ends.{taken}
use Rattle.ring_bench.specs.Passing.{CanTake}
use Rattle.ring_bench.proofs.rx.taking.take_all.Given as goal

abbrev pub invariant-loop : goal.invariant-loop
invariant-loop g l = record {
  can : CanTake l.ring l.driver;
  count : length (taken l.driver) + l.left ≡ l.plan.load.frames;
}
