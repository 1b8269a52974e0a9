use Rattle.ring_bench.specs.Fetching.{HasServed}
use Rattle.ring_bench.proofs.tx.fetching.send_all.Given as goal

abbrev pub invariant-loop : goal.invariant-loop
invariant-loop g l = HasServed l.ring l.initial.controller.completion l.controller
