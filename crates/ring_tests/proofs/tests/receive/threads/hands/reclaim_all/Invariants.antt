use Rattle.std.proofs.Common.{◌≡◌}
use Rattle.ring_tests.proofs.tests.receive.threads.hands.reclaim_all.Given as goal

abbrev pub invariant-loop : goal.invariant-loop
invariant-loop l = l.driver.table ≡ l.ring
