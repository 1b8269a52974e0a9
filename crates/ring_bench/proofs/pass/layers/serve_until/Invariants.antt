use Rattle.ring_bench.specs.Serving.{Serves}
use Rattle.ring_bench.proofs.pass.layers.serve_until.Given as goal

abbrev pub invariant-loop : goal.invariant-loop
invariant-loop g l = Serves l.way.from l.way.to l.way.frame.items l.device
