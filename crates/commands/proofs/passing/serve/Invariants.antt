use Rattle.commands.specs.Passing.{Offers}
use Rattle.commands.proofs.passing.serve.Given as goal

abbrev pub invariant-loop : goal.invariant-loop
invariant-loop g l = Offers l.ring l.controller
