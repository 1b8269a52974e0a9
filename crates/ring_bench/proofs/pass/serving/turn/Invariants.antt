use Rattle.ring_bench.specs.Serving.{PutsOn}
use Rattle.ring_bench.proofs.pass.serving.turn.Given as goal

abbrev pub invariant-loop-sent : goal.invariant-loop-sent
invariant-loop-sent l = PutsOn l.ring l.controller l.wire
