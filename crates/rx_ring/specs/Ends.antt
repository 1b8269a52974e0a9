-- The contracts' view of a ring's two ends: its identity, and the record of the end's own steps, with words for its
-- contents.
use Rattle.std.specs.Prelude.{ℕ, Bool, Option, Some, None}
use Rattle.buffer_pool.specs.Buffer.{Buffer}
use Rattle.shared_ring.specs.Ends as ends
use Rattle.rx_ring.specs.Form.{rx}
use Rattle.rx_ring.specs.Records.{knowing}
pub use Rattle.shared_ring.specs.Ends.{driver_size, driver_record, posted, published, reclaimed, returned, driver_state, known_of, fill_place, next_place, driver_grown, controller_size, controller_record, held, controller_state, is_at_frame_end, seen, head_stored, serve_place, controller_grown, reaped as taken, completed as stored, known_ahead as known_free, is_barred as is_quiet}

abbrev pub DriverSide : Type 0
DriverSide = ends.DriverSide rx

abbrev pub ControllerSide : Type 0
ControllerSide = ends.ControllerSide rx

-- Whether the driver loaded the quiet word as 1.
abbrev pub saw_quiet : DriverSide → Bool
saw_quiet d = (knowing d.events).quiet

-- Whether the driver saw the queue quiet, and then nothing left to take.
abbrev pub is_drained : DriverSide → Bool
is_drained d = (knowing d.events).drained

abbrev pub number_in : Option Buffer → Option ℕ
number_in None = None
number_in (Some b) = Some b.number

-- The number of the buffer that the controller fetched and has not written back.
abbrev pub held_number : ControllerSide → Option ℕ
held_number c = number_in (ends.held c)
