use Rattle.std.proofs.Common.{◌≡◌}
use Rattle.ring_tests.proofs.tests.receive.threads.fetch_when_free.Given as goal

abbrev pub invariant-loop : goal.invariant-loop
invariant-loop g l = l.controller.table ≡ l.ring
