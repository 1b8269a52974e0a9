use Rattle.ring_bench.specs.Serving.{StoresCopies}
use Rattle.ring_bench.proofs.pass.serving.offer.Given as goal

abbrev pub invariant-loop-stored : goal.invariant-loop-stored
invariant-loop-stored l = StoresCopies l.ring l.frame l.controller
