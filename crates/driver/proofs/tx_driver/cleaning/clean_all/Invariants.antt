use Rattle.std.proofs.Common.{◌≡◌, ℕ, ◌-◌, ◌≤◌, List, length, true}
use Rattle.ring_model.specs.shared.Handshakes.{is_live}
use Rattle.tx_ring.specs.Ends.{DriverSide, posted, reclaimed, seen_reported, driver_state}
use Rattle.driver.specs.transmit.Cleaning.{Cleans}
use Rattle.driver.specs.transmit.Batches.{CleanedInto}
use Rattle.driver.proofs.tx_driver.cleaning.clean_all.Given as goal

abbrev pub invariant-loop-driver : goal.invariant-loop-driver
invariant-loop-driver l = record {
  own : l.driver.table ≡ l.ring;
  live : is_live (driver_state l.driver) ≡ true;
  none_back : reclaimed l.driver ≡ 0;
  into : CleanedInto l.initial.driver l.initial.stash l.driver l.stash;
  seen : seen_reported l.initial.driver ≤ seen_reported l.driver;
  goes : (new : DriverSide) (has : List ℕ) → Cleans l.driver l.stash new has → Cleans l.initial.driver l.initial.stash new has;
}

abbrev pub decreases-loop-driver : goal.decreases-loop-driver
decreases-loop-driver l = length (posted l.driver) - seen_reported l.driver
