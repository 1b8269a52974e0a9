-- What the records of both rings' ends amount to, where frames were relayed from one to the other.
use Rattle.std.proofs.Common.{◌≡◌, ℕ, ◌≤◌, length, sym, subst}
use Rattle.atomic_table.specs.Seated.{TableId}
use Rattle.ring_model.specs.shared.Frames.{Bytes, frames}
use Rattle.ring_model.specs.shared.Segments.{piece_of}
use Rattle.ring_model.specs.transmit.Ring.{carried}
use Rattle.rx_ring.specs.Ends as receive
use Rattle.tx_ring.specs.Ends as transmit
use Rattle.ring_bench.specs.declared.kit.forwarding.Forwarder.{Forwarder}
use Rattle.ring_bench.specs.declared.kit.meeting.Ends.{Ends}
use Rattle.ring_bench.specs.Forwarding.{HasMet}
use Rattle.ring_bench.specs.Storing.{StoredOnly}
use Rattle.ring_bench.proofs.Taken.{AreCopies, taken_copies, whole_copies}
use Rattle.ring_bench.specs.Relaying.{HasRelayed, SentAtLeast}

-- so many copies were relayed, where the controller stored nothing else
pub has_relayed : (ring : TableId) (count : ℕ) (frame : Bytes) (f : Forwarder) (c : receive.ControllerSide) (e : Ends) → HasMet e → e.tx ≡ f.tx.end → e.rx_controller ≡ c
    → SentAtLeast count f → StoredOnly ring frame c → HasRelayed count frame e
has_relayed ring count frame f c e met tx_is c_is enough only =
    let all = whole_copies piece_of frame (receive.stored c) only.only in record {
      met = met;
      enough = subst (λ (d : transmit.DriverSide). count ≤ length (frames carried (transmit.posted d))) (sym tx_is) enough;
      copies = taken_copies frame e.rx e.rx_controller met.received (subst (λ (k : receive.ControllerSide). AreCopies frame (frames piece_of (receive.stored k))) (sym c_is) all);
    }
