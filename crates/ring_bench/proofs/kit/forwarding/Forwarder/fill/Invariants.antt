use Rattle.ring_bench.specs.Forwarding.{CanForward}
use Rattle.ring_bench.proofs.kit.forwarding.Forwarder.fill.Given as goal

abbrev pub invariant-loop : goal.invariant-loop
invariant-loop l = CanForward l.from l.to l.self
