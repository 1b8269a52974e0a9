use Rattle.std.proofs.Common.{◌≡◌}
use Rattle.ring_tests.proofs.tests.transmit.threads.drive_epochs.Given as goal

abbrev pub invariant-loop : goal.invariant-loop
invariant-loop g l = l.side.end.table ≡ l.ring
