use Rattle.std.proofs.Common.{◌≡◌, ◌+◌}
use Rattle.tx_ring.specs.Ends.{cleaned}
use Rattle.ring_bench.specs.Sending.{IsUnderWay}
use Rattle.ring_bench.proofs.tx.posting.post_more.Given as goal

abbrev pub invariant-loop : goal.invariant-loop
invariant-loop l = record {
  run : IsUnderWay l.ring l.frame l.driver l.stock l.course;
  plan : l.course.plan ≡ l.initial.course.plan;
  count : l.course.posted ≡ l.initial.course.posted + l.counter;
  cleaned : cleaned l.driver ≡ cleaned l.initial.driver;
}
