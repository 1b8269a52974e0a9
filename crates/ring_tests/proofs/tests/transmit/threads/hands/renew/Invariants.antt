use Rattle.std.proofs.Common.{◌≡◌}
use Rattle.ring_tests.proofs.tests.transmit.threads.hands.renew.Given as goal

abbrev pub invariant-loop : goal.invariant-loop
invariant-loop l = l.driver.table ≡ l.ring
