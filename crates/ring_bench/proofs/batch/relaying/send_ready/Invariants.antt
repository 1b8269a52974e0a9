use Rattle.std.proofs.Common.{◌≡◌, ◌+◌}
use Rattle.tx_ring.specs.Ends.{known_ready}
use Rattle.ring_bench.specs.Fetching.{CanFetch}
use Rattle.ring_bench.proofs.batch.relaying.send_ready.Given as goal

abbrev pub invariant-loop : goal.invariant-loop
invariant-loop l = record {
  can : CanFetch l.ring l.controller;
  ready : known_ready l.controller + l.counter ≡ known_ready l.initial.controller;
}
