use Rattle.std.proofs.Common.{◌+◌, ◌≤◌, length}
use Rattle.ring_model.specs.shared.Frames.{frames}
use Rattle.ring_model.specs.transmit.Ring.{carried}
use Rattle.tx_ring.specs.Ends.{posted}
use Rattle.ring_bench.specs.Relaying.{CanRelay}
use Rattle.ring_bench.proofs.batch.relaying.relay_all.Given as goal

abbrev pub invariant-loop : goal.invariant-loop
invariant-loop g l = record {
  can : CanRelay l.way.from l.way.to l.way.frame.items l.device.rx l.device.tx l.forwarder;
  count : l.plan.load.frames ≤ l.to_send + length (frames carried (posted l.forwarder.tx.end));
}
