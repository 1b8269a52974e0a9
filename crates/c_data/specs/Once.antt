-- One frame through a receive ring whose two ends take turns.
use Rattle.std.specs.Prelude.{◌≡◌, true, List, ◌++◌, length, drop, map}
use Rattle.atomic_table.specs.Seated.{TableId}
use Rattle.buffer_pool.specs.Buffer.{Buffer}
use Rattle.buffer_pool.specs.Packed.{bytes_of}
use Rattle.ring_model.specs.shared.Frames.{Bytes, frames}
use Rattle.ring_model.specs.shared.Handshakes.{is_open}
use Rattle.ring_model.specs.shared.Segments.{piece_of}
use Rattle.rx_ring.specs.Ends.{ControllerSide, DriverSide, driver_state, taken}
use Rattle.driver.specs.receive.Chains.{going_on, segments_in}
use Rattle.commands.specs.Passing.{HasPassed}

-- the driver's queue is not disabled, and the driver took the packets of its list and the beginning of a frame
pub record Drives (ring : TableId) (driver : DriverSide) (chain : List Buffer) (list : List (List Buffer)) : Type 0 where
  pub own : driver.table ≡ ring
  pub not_shut : is_open (driver_state driver) ≡ true
  pub segments : taken driver ≡ segments_in list ++ going_on chain
  pub frames_are : frames piece_of (taken driver) ≡ map bytes_of list

-- two ends of one ring passed the frame, and it is in this packet
pub record HasCome (frame : Bytes) (packet : List Buffer) : Type 0 where
  pub driver : DriverSide
  pub controller : ControllerSide
  pub passed : HasPassed frame driver controller packet

-- the packet with the frame was copied to the beginning of the room
pub record IsWritten (frame before after : Bytes) : Type 0 where
  pub packet : List Buffer
  pub come : HasCome frame packet
  pub copied : after ≡ bytes_of packet ++ drop (length frame) before
