use Rattle.std.proofs.Common.{◌≡◌}
use Rattle.ring_tests.proofs.tests.receive.threads.control_epochs.Given as goal

abbrev pub invariant-loop : goal.invariant-loop
invariant-loop g l = l.end.table ≡ l.ring
