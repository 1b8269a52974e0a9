-- The frames that the device's side of both layers stored and put onto its wire.
use Rattle.std.specs.Prelude.{◌≡◌, ℕ, All, List, [], replicate}
use Rattle.atomic_table.specs.Seated.{TableId}
use Rattle.controller.specs.Receiving.{Receiving}
use Rattle.ring_model.specs.shared.Frames.{Bytes, frames}
use Rattle.ring_model.specs.shared.Segments.{piece_of}
use Rattle.ring_model.specs.transmit.Ring.{carried}
use Rattle.rx_ring.specs.Ends.{stored}
use Rattle.tx_ring.specs.Ends.{ControllerSide, sent}
use Rattle.ring_bench.specs.declared.kit.meeting.Ends.{Ends}
use Rattle.ring_bench.specs.declared.pass.serving.Device.{Device}
use Rattle.ring_bench.specs.declared.kit.forwarding.Forwarder.{Forwarder}
use Rattle.ring_bench.specs.Forwarding.{CanForward, HasMet}

-- the controller stored no frame but this one at the ring
pub record StoresCopies (ring : TableId) (frame : Bytes) (controller : Receiving) : Type 0 where
  pub own : controller.end.table ≡ ring
  pub copies : All (λ f. f ≡ frame) (frames piece_of (stored controller.end))

-- the wire has the frames that the controller sent at the ring
pub record PutsOn (ring : TableId) (controller : ControllerSide) (wire : List Bytes) : Type 0 where
  pub own : controller.table ≡ ring
  pub wire_is : wire ≡ frames carried (sent controller)

pub record Serves (from to : TableId) (frame : Bytes) (d : Device) : Type 0 where
  pub stores : StoresCopies from frame d.rx
  pub sends : PutsOn to d.tx d.wire

-- controllers that stored nothing but the frame, and drivers that forward, are at work on these rings
pub record AreAtWork (from to : TableId) (frame : Bytes) (d : Device) (f : Forwarder) : Type 0 where
  pub serves : Serves from to frame d
  pub forwards : CanForward from to f

-- the controllers belong to these rings, and have handled no frame yet
pub record HasNothing (from to : TableId) (d : Device) : Type 0 where
  pub stores : d.rx.end.table ≡ from
  pub sends : d.tx.table ≡ to
  pub none_stored : stored d.rx.end ≡ []
  pub none_sent : sent d.tx ≡ []
  pub empty : d.wire ≡ []

-- `count` copies of the frame went through both rings: they are on the wire, and the controller sent exactly these
pub record HasGone (count : ℕ) (frame : Bytes) (e : Ends) (wire : List Bytes) : Type 0 where
  pub met : HasMet e
  pub wire_is : wire ≡ frames carried (sent e.tx_controller)
  pub copies : wire ≡ replicate count frame
