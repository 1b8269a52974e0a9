use Rattle.std.proofs.Common.{◌≡◌}
use Rattle.ring_tests.proofs.tests.receive.threads.hands.serve.Given as goal

abbrev pub invariant-loop-k : goal.invariant-loop-k
invariant-loop-k g l = l.end.table ≡ l.ring
