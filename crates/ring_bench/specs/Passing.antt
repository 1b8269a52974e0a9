-- The invariant of the driver's thread of a receive ring, and the frames that have passed at the end.
use Rattle.std.specs.Prelude.{◌≡◌, ℕ, [], length, replicate}
use Rattle.atomic_table.specs.Seated.{TableId}
use Rattle.ring_model.specs.declared.states.DriverState.TheVariants.{On}
use Rattle.ring_model.specs.shared.Segments.{piece_of}
use Rattle.ring_model.specs.shared.Frames.{Bytes, frames}
use Rattle.ring_model.specs.receive.Lawful.{IsLawfulRxLedger}
use Rattle.rx_ring.specs.Ends.{DriverSide, ControllerSide, driver_size, taken, driver_state}
use Rattle.rx_ring.specs.Meeting.{ledger_of}
use Rattle.limits.specs.RingLength.{IsRingLength}
use Rattle.ring_bench.specs.Copies.{IsFrameLength}
use Rattle.ring_bench.specs.Enabling as enabling
use Rattle.ring_bench.specs.Enabling.{CanServe}

-- the driver took nothing, and may ask for its queue to be enabled
pub record CanAsk (ring : TableId) (driver : DriverSide) : Type 0 where
  pub can : enabling.CanAsk ring driver
  pub none_taken : taken driver ≡ []

-- both ends may begin to pass the frame through the ring
pub record CanPass (ring : TableId) (frame : Bytes) (driver : DriverSide) (controller : ControllerSide) : Type 0 where
  pub size : IsRingLength ring.slots
  pub asks : CanAsk ring driver
  pub serves : CanServe ring controller
  pub fits : IsFrameLength (length frame)

-- the driver saw its queue enabled
pub record CanTake (ring : TableId) (driver : DriverSide) : Type 0 where
  pub own : driver.table ≡ ring
  pub on : driver_state driver ≡ On

-- the driver took `count` segments at the ring
pub record TookAll (ring : TableId) (count : ℕ) (driver : DriverSide) : Type 0 where
  pub own : driver.table ≡ ring
  pub count_is : length (taken driver) ≡ count

-- `count` copies of the frame went through one ring: the driver took exactly these, and the ledger of the two ends is
-- lawful
pub record HasPassed (count : ℕ) (frame : Bytes) (driver : DriverSide) (controller : ControllerSide) : Type 0 where
  pub one_ring : controller.table ≡ driver.table
  pub lawful : IsLawfulRxLedger Bytes (driver_size driver) (ledger_of driver controller)
  pub copies : frames piece_of (taken driver) ≡ replicate count frame
