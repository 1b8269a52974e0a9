-- The invariant of the rings' ends that relay one frame from a receive ring to a transmit ring again and again.
use Rattle.std.specs.Prelude.{◌≡◌, ℕ, ◌≤◌, All, length}
use Rattle.atomic_table.specs.Seated.{TableId}
use Rattle.limits.specs.RingLength.{IsRingLength}
use Rattle.ring_model.specs.shared.Frames.{Bytes, frames}
use Rattle.ring_model.specs.shared.Segments.{piece_of}
use Rattle.ring_model.specs.transmit.Ring.{carried}
use Rattle.rx_ring.specs.Ends as receive
use Rattle.tx_ring.specs.Ends as transmit
use Rattle.ring_bench.specs.Copies.{IsFrameLength}
use Rattle.ring_bench.specs.Enabling.{CanServe}
use Rattle.ring_bench.specs.Fetching.{CanFetch}
use Rattle.ring_bench.specs.Storing.{CanStore, StoredOnly}
use Rattle.ring_bench.specs.declared.kit.forwarding.Forwarder.{Forwarder}
use Rattle.ring_bench.specs.declared.kit.meeting.Ends.{Ends}
use Rattle.ring_bench.specs.Forwarding.{CanForward, HasMet}

module _ (from to : TableId) (frame : Bytes) (rx : receive.ControllerSide) (tx : transmit.ControllerSide) (f : Forwarder) where
  -- no queue is enabled yet
  pub record CanBegin : Type 0 where
    pub size : IsRingLength from.slots
    pub fits : IsFrameLength (length frame)
    pub stores : CanServe from rx
    pub sends : CanServe to tx
    pub forwards : CanForward from to f

  -- both queues are enabled, and nothing but the frame was stored
  pub record CanRelay : Type 0 where
    pub size : IsRingLength from.slots
    pub fits : IsFrameLength (length frame)
    pub stores : CanStore from frame rx
    pub sends : CanFetch to tx
    pub forwards : CanForward from to f

-- at least this many frames were sent on
abbrev pub SentAtLeast : ℕ → Forwarder → Type 0
SentAtLeast count f = count ≤ length (frames carried (transmit.posted f.tx.end))

-- at least `count` frames were sent on, and nothing but the frame was stored
pub record RelayedAll (count : ℕ) (from to : TableId) (frame : Bytes) (rx : receive.ControllerSide) (tx : transmit.ControllerSide) (f : Forwarder) : Type 0 where
  pub stores : StoredOnly from frame rx
  pub sends : CanFetch to tx
  pub forwards : CanForward from to f
  pub enough : SentAtLeast count f

-- At least `count` copies of the frame were stored, received and sent on, and no other frame
pub record HasRelayed (count : ℕ) (frame : Bytes) (e : Ends) : Type 0 where
  pub met : HasMet e
  pub enough : count ≤ length (frames carried (transmit.posted e.tx))
  pub copies : All (λ f. f ≡ frame) (frames piece_of (receive.taken e.rx))
