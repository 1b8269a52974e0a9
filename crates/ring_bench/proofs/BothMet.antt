-- The ends of two rings between which drivers forwarded have met.
use Rattle.std.proofs.Common.{◌≡◌, ◌∙◌, List, ◌++◌, map, ap, sym}
use Rattle.atomic_table.specs.Seated.{TableId}
use Rattle.buffer_pool.specs.Packed.{bytes_of}
use Rattle.ring_model.specs.receive.Lawful.{IsLawfulRxLedger}
use Rattle.ring_model.specs.transmit.Lawful.{IsLawfulTxLedger}
use Rattle.ring_model.specs.shared.Frames.{Bytes, frames}
use Rattle.ring_model.specs.shared.Segments.{piece_of}
use Rattle.ring_model.specs.transmit.Ring.{carried}
use Rattle.rx_ring.specs.Ends as receive
use Rattle.rx_ring.specs.Meeting as received
use Rattle.tx_ring.specs.Ends as transmit
use Rattle.tx_ring.specs.Meeting as transmitted
use Rattle.ring_bench.specs.declared.kit.forwarding.Forwarder.{Forwarder}
use Rattle.ring_bench.specs.Forwarding.{CanForward, HasMet}

-- the ends of two drivers that forwarded have met those of the controllers
pub has_met : (from to : TableId) (f : Forwarder) (rx : receive.DriverSide) (rx_controller : receive.ControllerSide) (tx : transmit.DriverSide) (tx_controller : transmit.ControllerSide)
    → CanForward from to f → rx ≡ f.rx.end → tx ≡ f.tx.end → rx_controller.table ≡ from → tx_controller.table ≡ to
    → IsLawfulRxLedger Bytes (receive.driver_size rx) (received.ledger_of rx rx_controller) → IsLawfulTxLedger Bytes (transmit.driver_size tx) (transmitted.ledger_of tx tx_controller)
    → HasMet (record { rx = rx; rx_controller = rx_controller; tx = tx; tx_controller = tx_controller })
has_met from to f rx rx_controller tx tx_controller can rx_is tx_is stores sends received sent =
    let waiting : List Bytes = map bytes_of f.packets.items in record {
      one_rx = stores ∙ sym (ap (λ (d : receive.DriverSide). d.table) rx_is ∙ can.receives);
      one_tx = sends ∙ sym (ap (λ (d : transmit.DriverSide). d.table) tx_is ∙ can.sends);
      received = received;
      sent = sent;
      sent_on = (waiting, ap (λ (d : transmit.DriverSide). frames carried (transmit.posted d) ++ waiting) tx_is ∙ (sym can.relayed ∙ ap (λ (d : receive.DriverSide). frames piece_of (receive.taken d)) (sym rx_is)));
    }
