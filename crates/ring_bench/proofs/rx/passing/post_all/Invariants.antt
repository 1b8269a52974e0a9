use Rattle.std.proofs.Common.{◌≤◌, ◌+◌, length}
use Rattle.ring_bench.proofs.Received.{HasPosted}
use Rattle.ring_bench.proofs.rx.passing.post_all.Given as goal

abbrev pub invariant-loop : goal.invariant-loop
invariant-loop l = record {
  posts : HasPosted l.ring l.counter l.driver;
  stock : l.ring.slots ≤ l.counter + length l.stock.numbers;
}
