-- The contracts' view of a ring's two ends: its identity, how it reports, and the record of the end's own steps, with
-- words for its contents.
use Rattle.std.specs.Prelude.{ℕ, Option}
use Rattle.shared_ring.specs.Ends as ends
use Rattle.tx_ring.specs.Form.{tx}
use Rattle.tx_ring.specs.Records as records
use Rattle.tx_ring.specs.Records.{driving, knowing, fetched_word}
pub use Rattle.shared_ring.specs.Ends.{driver_size, driver_record, posted, published, reclaimed, returned, driver_state, known_of, fill_place, next_place, driver_grown, controller_size, controller_record, held, controller_state, is_at_frame_end, seen, head_stored, serve_place, controller_grown, reaped as cleaned, completed as sent, known_ahead as known_ready, is_barred as is_owed}

abbrev pub DriverSide : Type 0
DriverSide = ends.DriverSide tx

abbrev pub ControllerSide : Type 0
ControllerSide = ends.ControllerSide tx

-- The number of items that the driver has seen reported.
abbrev pub seen_reported : DriverSide → ℕ
seen_reported d = (knowing d.events).seen

-- The oldest report that was asked for and not seen, if there is one.
abbrev pub outstanding : DriverSide → Option ℕ
outstanding d = records.outstanding (driving d.events) (knowing d.events).seen

-- The word of the descriptor that the controller last fetched.
abbrev pub held_word : ControllerSide → ℕ
held_word c = fetched_word c.events
