-- The states of the two threads of a ring before and after one frame is passed.
use Rattle.std.specs.Prelude.{◌≡◌, ◌<◌, ◌⊎◌, true, false, List, [], ◌∷◌, ◌++◌, length, map}
use Rattle.atomic_table.specs.Seated.{TableId}
use Rattle.buffer_pool.specs.Buffer.{Buffer}
use Rattle.buffer_pool.specs.Packed.{bytes_of}
use Rattle.limits.specs.declared.profile.TheConstants.{BUFFER_BYTES}
use Rattle.limits.specs.RingLength.{IsRingLength}
use Rattle.ring_model.specs.shared.Frames.{Bytes, cut, frames, piece_count, HasFrameLength}
use Rattle.ring_model.specs.shared.Segments.{piece_of}
use Rattle.ring_model.specs.receive.Lawful.{IsLawfulRxLedger}
use Rattle.rx_ring.specs.Ends.{DriverSide, ControllerSide, driver_size, taken, stored, is_at_frame_end}
use Rattle.rx_ring.specs.Calls.{IsFreshDriver, IsFreshController}
use Rattle.rx_ring.specs.Meeting.{ledger_of}
use Rattle.controller.specs.Receiving.{Receiving}
use Rattle.driver.specs.receive.Chains.{going_on, segments_in, segments_of}

-- a frame of lawful length, with fewer pieces than the ring has descriptors
pub record Fits (ring : TableId) (frame : Bytes) : Type 0 where
  pub lawful : HasFrameLength frame
  pub few : piece_count BUFFER_BYTES (length frame) < ring.slots

-- the two ends of the ring are new, and the frame fits
pub record CanPass (ring : TableId) (driver : DriverSide) (controller : ControllerSide) (frame : Bytes) : Type 0 where
  pub size : IsRingLength ring.slots
  pub driver_own : driver.table ≡ ring
  pub fresh_driver : IsFreshDriver driver
  pub controller_own : controller.table ≡ ring
  pub fresh_controller : IsFreshController controller
  pub fits : Fits ring frame

-- the driver took packets at the ring, this one last, and perhaps the beginning of another frame
pub record TookPacket (ring : TableId) (driver : DriverSide) (packet : List Buffer) : Type 0 where
  pub own : driver.table ≡ ring
  pub before : List (List Buffer)
  pub begun : List Buffer
  pub segments : taken driver ≡ segments_in (before ++ packet ∷ []) ++ going_on begun
  pub frames_are : frames piece_of (taken driver) ≡ map bytes_of (before ++ packet ∷ [])

-- the controller stored the pieces of the frame at the ring, and nothing else
pub record HasStored (ring : TableId) (frame : Bytes) (controller : ControllerSide) : Type 0 where
  pub own : controller.table ≡ ring
  pub pieces : map piece_of (stored controller) ≡ cut BUFFER_BYTES frame
  pub frames_are : frames piece_of (stored controller) ≡ frame ∷ []

-- the controller stored the frame once or not at all, and nothing else
pub record StoredOnly (ring : TableId) (frame : Bytes) (controller : ControllerSide) : Type 0 where
  pub own : controller.table ≡ ring
  pub whole : is_at_frame_end controller ≡ true
  pub only : (stored controller ≡ []) ⊎ HasStored ring frame controller

-- the controller has stored nothing at the ring; it fills whole buffers, and drops nothing
pub record Offers (ring : TableId) (controller : Receiving) : Type 0 where
  pub own : controller.end.table ≡ ring
  pub none_stored : stored controller.end ≡ []
  pub fills : controller.bsize ≡ BUFFER_BYTES
  pub holds : controller.drop_en ≡ false

-- The frame went through one ring: the controller stored its pieces and nothing else, the driver took all of them and
-- nothing else, and they are the segments of the packet
pub record HasPassed (frame : Bytes) (driver : DriverSide) (controller : ControllerSide) (packet : List Buffer) : Type 0 where
  pub one_ring : controller.table ≡ driver.table
  pub lawful : IsLawfulRxLedger Bytes (driver_size driver) (ledger_of driver controller)
  pub into_ring : map piece_of (stored controller) ≡ cut BUFFER_BYTES frame
  pub across : taken driver ≡ stored controller
  pub out_of_ring : taken driver ≡ segments_of packet
  pub bytes : bytes_of packet ≡ frame
