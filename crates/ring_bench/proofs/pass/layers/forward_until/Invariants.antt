use Rattle.ring_bench.specs.Forwarding.{CanForward}
use Rattle.ring_bench.proofs.pass.layers.forward_until.Given as goal

abbrev pub invariant-loop : goal.invariant-loop
invariant-loop g l = CanForward l.way.from l.way.to l.forwarder
