use Rattle.std.proofs.Common.{◌≡◌}
use Rattle.ring_bench.specs.Sending.{IsUnderWay}
use Rattle.ring_bench.proofs.tx.posting.post_all.Given as goal

abbrev pub invariant-loop : goal.invariant-loop
invariant-loop g l = record {
  run : IsUnderWay l.ring l.frame l.driver l.stock l.course;
  plan : l.course.plan ≡ l.fn.plan;
}
