-- What the two ends together establish: when they are made, when they meet, and when the ring is closed.
use Rattle.std.specs.Prelude.{◌≡◌, ℕ, ◌+◌, ◌-◌, ◌%◌, List, length, Option, Some, slice_get}
use Rattle.atomic_table.specs.Seated.{TableId}
use Rattle.buffer_pool.specs.Buffer.{Buffer}
use Rattle.ring_model.specs.declared.states.Completion.TheVariants.{Status}
use Rattle.ring_model.specs.receive.Ring.{RxLedger}
use Rattle.ring_model.specs.shared.Frames.{Bytes}
use Rattle.shared_ring.specs.Meeting as shared
pub use Rattle.shared_ring.specs.Meeting.{is_unanswered, completed_now as stored_now, Met, IsReal, AllReal, CameBackFrom, IsOutAt, numbers_at}
use Rattle.rx_ring.specs.Ends.{DriverSide, driver_size, posted, taken, ControllerSide}
use Rattle.rx_ring.specs.Form.{AreOf}

-- A new ring that reports in its descriptors. It is disabled, and neither end has made a step.
abbrev pub MadeSeats : ℕ → TableId → DriverSide → ControllerSide → Type 0
MadeSeats n ring d c = shared.MadeSeats n Status ring d c

-- The ledger that the two ends have together.
abbrev pub ledger_of : DriverSide → ControllerSide → RxLedger Bytes
ledger_of d c = record { posted = posted d; completed = stored_now d c; reaped = taken d }

-- The number of segments left to take, from a loaded head.
abbrev pub left_by : DriverSide → ℕ → ℕ
left_by d head = (head + driver_size d - length (taken d) % driver_size d) % driver_size d

-- The numbers of the buffers that are out, oldest first.
abbrev pub out_of : DriverSide → List ℕ
out_of d = shared.out_of (λ number. number) d

-- Each buffer that is out appears once among these places and the controller's held buffer.
abbrev pub AllCameBack : DriverSide → ControllerSide → List (Option Buffer) → Type 0
AllCameBack d c buffers = shared.AllCameBack (λ number. number) d c buffers

-- This place had the buffer of an item that is out, with the number that was posted there.
pub record GaveBack (d : DriverSide) (buffers : List (Option Buffer)) (place : ℕ) : Type 0 where
  pub item : ℕ
  pub buf : Buffer
  pub is_out : IsOutAt d item place
  pub open is_out use *
  pub there : slice_get buffers place ≡ Some (Some buf)
  pub number : slice_get (posted d) item ≡ Some buf.number

-- A closed ring gave a buffer back at exactly the places that Ring owned, each that of an item that is out.
pub record IsClosed (d : DriverSide) (c : ControllerSide) (buffers : List (Option Buffer)) : Type 0 where
  pub of_one_ring : AreOf (driver_size d) d.events c.events
  pub places : CameBackFrom (driver_size d) of_one_ring.queue.owners (GaveBack d buffers) buffers
  pub open places use *
