use Rattle.std.proofs.Common.{◌≡◌, ◌+◌, length, true}
use Rattle.ring_model.specs.shared.Handshakes.{is_live}
use Rattle.tx_ring.specs.Ends.{cleaned, reclaimed, driver_state, known_of}
use Rattle.driver.specs.transmit.Going.{is_clean}
use Rattle.driver.specs.transmit.Cleaning.{CleanedBy, CleanedOff}
use Rattle.driver.proofs.tx_driver.cleaning.clean_reported.Given as goal

abbrev pub invariant-loop : goal.invariant-loop
invariant-loop l = record {
  own : l.driver.table ≡ l.ring;
  live : is_live (driver_state l.driver) ≡ true;
  none_back : reclaimed l.driver ≡ 0;
  off : CleanedOff l.initial.driver l.driver;
  into : CleanedBy is_clean l.initial.driver l.initial.stash l.driver l.stash;
  known : known_of l.driver ≡ known_of l.initial.driver;
  cleans : length (cleaned l.driver) ≡ length (cleaned l.initial.driver) + l.counter;
  stashed : length l.stash ≡ length l.initial.stash + l.counter;
}
