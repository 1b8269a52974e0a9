-- The frames that are forwarded from a receive ring to a transmit ring.
use Rattle.std.specs.Prelude.{◌≡◌, ◌++◌, All, map}
use Rattle.atomic_table.specs.Seated.{TableId}
use Rattle.buffer_pool.specs.Packed.{IsPacket, bytes_of}
use Rattle.ring_model.specs.receive.Lawful.{IsLawfulRxLedger}
use Rattle.ring_model.specs.shared.Frames.{Bytes, frames}
use Rattle.ring_model.specs.shared.Lists.{IsBeginning}
use Rattle.ring_model.specs.shared.Segments.{piece_of}
use Rattle.ring_model.specs.transmit.Lawful.{IsLawfulTxLedger}
use Rattle.ring_model.specs.transmit.Ring.{carried}
use Rattle.rx_ring.specs.Ends as receive
use Rattle.rx_ring.specs.Meeting as received
use Rattle.tx_ring.specs.Ends as transmit
use Rattle.tx_ring.specs.Meeting as transmitted
use Rattle.ring_bench.specs.declared.kit.forwarding.Forwarder.{Forwarder}
use Rattle.ring_bench.specs.declared.kit.meeting.Ends.{Ends}

-- The drivers belong to these rings, and the frames received are those sent on, followed by those at hand
pub record CanForward (from to : TableId) (f : Forwarder) : Type 0 where
  pub receives : f.rx.end.table ≡ from
  pub sends : f.tx.end.table ≡ to
  pub whole : All IsPacket f.packets.items
  pub relayed : frames piece_of (receive.taken f.rx.end) ≡ frames carried (transmit.posted f.tx.end) ++ map bytes_of f.packets.items

-- Both ends of each ring have met: their ledgers are lawful, and the frames sent on are a beginning of those received
pub record HasMet (e : Ends) : Type 0 where
  pub one_rx : e.rx_controller.table ≡ e.rx.table
  pub one_tx : e.tx_controller.table ≡ e.tx.table
  pub received : IsLawfulRxLedger Bytes (receive.driver_size e.rx) (received.ledger_of e.rx e.rx_controller)
  pub sent : IsLawfulTxLedger Bytes (transmit.driver_size e.tx) (transmitted.ledger_of e.tx e.tx_controller)
  pub sent_on : IsBeginning (frames carried (transmit.posted e.tx)) (frames piece_of (receive.taken e.rx))
