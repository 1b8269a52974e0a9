use Rattle.ring_bench.specs.Storing.{CanStore}
use Rattle.ring_bench.proofs.batch.relaying.store_more.Given as goal

abbrev pub invariant-loop-stored : goal.invariant-loop-stored
invariant-loop-stored l = CanStore l.ring l.frame l.controller
