use Rattle.std.proofs.Common.{◌≡◌, length, take, true}
use Rattle.arrayvec.specs.Iter.{drain_items, DrainKeeps}
use Rattle.ring_model.specs.shared.Handshakes.{is_open}
use Rattle.tx_ring.specs.Ends.{driver_state}
use Rattle.driver.proofs.transmit.Fronts.{FramesPosted}
use Rattle.driver.proofs.tx_driver.posting.post_front.Given as goal

abbrev pub invariant-loop-packet : goal.invariant-loop-packet
invariant-loop-packet l = record {
  next : (goal.iterator-loop-packet).can_next l.packet-iterator;
  finite : (goal.iterator-loop-packet).is_finite l.packet-iterator;
  keeps : DrainKeeps l.initial.packet-iterator l.packet-iterator;
  own : l.driver.table ≡ l.ring;
  opened : is_open (driver_state l.driver) ≡ true;
  posted : FramesPosted l.every l.before (take l.count l.fn.packets.items) l.initial.driver l.frames (drain_items l.packet-iterator) l.driver;
  left : l.left ≡ length (drain_items l.packet-iterator);
}
