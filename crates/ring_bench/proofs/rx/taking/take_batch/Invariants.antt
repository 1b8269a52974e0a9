use Rattle.std.proofs.Common.{◌≡◌, ◌+◌, length}
use Rattle.rx_ring.specs.Ends.{taken}
use Rattle.ring_bench.specs.Passing.{CanTake}
use Rattle.ring_bench.proofs.rx.taking.take_batch.Given as goal

abbrev pub invariant-loop-got : goal.invariant-loop-got
invariant-loop-got l = record {
  can : CanTake l.ring l.driver;
  grew : length (taken l.driver) ≡ length (taken l.initial.driver) + l.got;
}
