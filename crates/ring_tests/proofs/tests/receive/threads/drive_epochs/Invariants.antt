use Rattle.std.proofs.Common.{◌≡◌}
use Rattle.rx_ring.specs.Ends.{reclaimed}
use Rattle.ring_tests.proofs.tests.receive.threads.drive_epochs.Given as goal

abbrev pub invariant-loop : goal.invariant-loop
invariant-loop g l = record { own : l.driver.table ≡ l.ring; fresh : reclaimed l.driver ≡ 0 }
