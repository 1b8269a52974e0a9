-- The invariant of a receive ring's controller that stores one frame again and again.
use Rattle.std.specs.Prelude.{◌≡◌, true, false, [], None}
use Rattle.atomic_table.specs.Seated.{TableId}
use Rattle.ring_model.specs.shared.Segments.{piece_of}
use Rattle.ring_model.specs.shared.Handshakes.{is_serving}
use Rattle.ring_model.specs.shared.Frames.{Bytes, unfinished}
use Rattle.rx_ring.specs.Ends.{ControllerSide, stored, held, controller_state, is_quiet}
use Rattle.ring_bench.specs.Copies.{AllWhole}

-- the controller stored nothing but the frame at the ring
pub record StoredOnly (ring : TableId) (frame : Bytes) (controller : ControllerSide) : Type 0 where
  pub own : controller.table ≡ ring
  pub only : AllWhole piece_of frame (stored controller)

-- the controller stored nothing but the frame at the ring, and can store it again if a descriptor is free
pub record CanStore (ring : TableId) (frame : Bytes) (controller : ControllerSide) : Type 0 where
  pub stored_only : StoredOnly ring frame controller
  pub none_unfinished : unfinished piece_of (stored controller) ≡ []
  pub none_held : held controller ≡ None
  pub serving : is_serving (controller_state controller) ≡ true
  pub not_quiet : is_quiet controller ≡ false
