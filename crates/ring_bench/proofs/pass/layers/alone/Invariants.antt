use Rattle.ring_bench.specs.Serving.{AreAtWork}
use Rattle.ring_bench.proofs.pass.layers.alone.Given as goal

abbrev pub invariant-loop : goal.invariant-loop
invariant-loop g l = AreAtWork l.way.from l.way.to l.way.frame.items l.device l.forwarder
