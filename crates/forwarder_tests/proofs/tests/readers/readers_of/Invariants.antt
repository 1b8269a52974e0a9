use Rattle.std.proofs.Common.{◌≡◌}
use Rattle.forwarder_tests.proofs.tests.readers.readers_of.Given as goal

abbrev pub invariant-loop-k : goal.invariant-loop-k
invariant-loop-k g l = l.pens ≡ l.initial.pens
