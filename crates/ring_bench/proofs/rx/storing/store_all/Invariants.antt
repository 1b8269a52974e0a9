use Rattle.ring_bench.specs.Storing.{CanStore}
use Rattle.ring_bench.proofs.rx.storing.store_all.Given as goal

abbrev pub invariant-loop : goal.invariant-loop
invariant-loop g l = CanStore l.ring l.frame l.controller
