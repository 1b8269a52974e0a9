use Rattle.std.proofs.Common.{◌≡◌, ◌+◌, length, true}
use Rattle.ring_model.specs.shared.Handshakes.{is_open}
use Rattle.tx_ring.specs.Ends.{driver_state}
use Rattle.driver.proofs.transmit.Posting.{FrameBegun}
use Rattle.driver.proofs.tx_driver.posting.post_segments.Given as goal

abbrev pub invariant-loop : goal.invariant-loop
invariant-loop l = record {
  own : l.driver.table ≡ l.ring;
  opened : is_open (driver_state l.driver) ≡ true;
  begun : FrameBegun l.paylen l.rs l.initial.packet l.initial.driver l.packet l.driver;
  count : length l.packet + l.counter ≡ length l.initial.packet + 1;
}
