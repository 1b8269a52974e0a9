use Rattle.std.proofs.Common.{◌≡◌, ◌+◌, true, length}
use Rattle.ring_model.specs.shared.Handshakes.{is_live}
use Rattle.tx_ring.specs.Ends.{driver_size, driver_record, driver_state, cleaned, seen_reported}
use Rattle.ring_bench.specs.Sending.{OnlyCleaned, Supplies}
use Rattle.ring_bench.proofs.tx.posting.clean.Given as goal

abbrev pub invariant-loop : goal.invariant-loop
invariant-loop l = record {
  only : OnlyCleaned l.fn.driver l.driver;
  live : is_live (driver_state l.driver) ≡ true;
  supplies : Supplies l.stock (driver_size l.driver) (driver_record l.driver);
  count : length (cleaned l.driver) ≡ length (cleaned l.initial.driver) + l.counter;
  seen : seen_reported l.driver ≡ seen_reported l.initial.driver;
}
