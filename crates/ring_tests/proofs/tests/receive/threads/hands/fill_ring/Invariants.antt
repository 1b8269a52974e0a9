use Rattle.std.proofs.Common.{◌≡◌}
use Rattle.rx_ring.specs.Ends.{reclaimed}
use Rattle.ring_tests.proofs.tests.receive.threads.hands.fill_ring.Given as goal

abbrev pub invariant-loop : goal.invariant-loop
invariant-loop l = record { own : l.driver.table ≡ l.ring; untouched : reclaimed l.driver ≡ reclaimed l.initial.driver }
