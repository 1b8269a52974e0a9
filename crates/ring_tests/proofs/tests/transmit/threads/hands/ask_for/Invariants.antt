use Rattle.std.proofs.Common.{◌≡◌}
use Rattle.ring_tests.proofs.tests.transmit.threads.hands.ask_for.Given as goal

abbrev pub invariant-loop : goal.invariant-loop
invariant-loop g l = l.driver.table ≡ l.ring
