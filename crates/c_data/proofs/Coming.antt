-- What came, where a packet was taken.
use Rattle.std.specs.Prelude.{◌≡◌, Option, Some, None, List, IfSome}
use Rattle.buffer_pool.specs.Buffer.{Buffer}
use Rattle.commands.specs.Passing.{HasPassed, TookPacket}
use Rattle.atomic_table.specs.Seated.{TableId}
use Rattle.ring_model.specs.shared.Frames.{Bytes}
use Rattle.rx_ring.specs.Ends.{ControllerSide, DriverSide}
use Rattle.c_data.specs.Once.{HasCome}

-- if a packet that the driver took tells that the frame passed, then it came in one
pub has_come : {ring : TableId} {frame : Bytes} {driver driver' : DriverSide} {controller controller' : ControllerSide} (packet : Option (List Buffer)) → driver' ≡ driver → controller' ≡ controller
    → ((p : List Buffer) → TookPacket ring driver p → HasPassed frame driver controller p)
    → IfSome packet (λ p. TookPacket ring driver p) → IfSome packet (λ p. HasCome frame p)
has_come {driver' = driver'} {controller' = controller'} (Some p) same_driver same_controller passes took =
    record { driver = driver'; controller = controller'; passed = rw (same_driver, same_controller) (passes p took) }
has_come None same_driver same_controller passes took = took
