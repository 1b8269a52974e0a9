-- What the two ends together establish: when they are made, when they meet, and when the ring is closed.
use Rattle.std.specs.Prelude.{◌≡◌, ℕ, ◌+◌, ◌-◌, ◌%◌, List, length, Option, Some, None, slice_get}
use Rattle.buffer_pool.specs.Buffer.{Buffer}
use Rattle.ring_model.specs.shared.Frames.{Bytes}
use Rattle.ring_model.specs.transmit.Ring.{TxLedger, number_of_posting}
use Rattle.shared_ring.specs.Meeting as shared
pub use Rattle.shared_ring.specs.Meeting.{MadeSeats, is_unanswered, completed_now as sent_now, Met, IsTold, IsReal, AllReal, CameBackFrom, IsOutAt, numbers_at}
use Rattle.tx_ring.specs.Ends.{DriverSide, driver_size, posted, cleaned, known_of, ControllerSide}
use Rattle.tx_ring.specs.Form.{AreOf}
use Rattle.tx_ring.specs.Records.{Posting}
use Rattle.tx_ring.specs.Rule.{filled}

-- The ledger that the two ends have together.
abbrev pub ledger_of : DriverSide → ControllerSide → TxLedger Bytes
ledger_of d c = record { posted = posted d; completed = sent_now d c; reaped = cleaned d }

-- The number of postings that were not sent, from a loaded head.
abbrev pub left_by : DriverSide → ℕ → ℕ
left_by d head = (length (posted d) % driver_size d + driver_size d - head) % driver_size d

-- The number that were not sent, if the head was loaded after the disabling was seen answered.
abbrev pub left_at : DriverSide → Option ℕ → Option ℕ
left_at d None = None
left_at d (Some head) = Some (left_by d head)

abbrev pub told_left : DriverSide → Option ℕ
told_left d = left_at d (known_of d).head

-- The numbers of the buffers that are out, oldest first.
abbrev pub out_of : DriverSide → List ℕ
out_of d = shared.out_of number_of_posting d

-- Each buffer that is out appears once among these places and the controller's held buffer.
abbrev pub AllCameBack : DriverSide → ControllerSide → List (Option Buffer) → Type 0
AllCameBack d c buffers = shared.AllCameBack number_of_posting d c buffers

-- This place had the buffer of an item that is out, with what was posted there.
pub record GaveBack (d : DriverSide) (buffers : List (Option Buffer)) (place : ℕ) : Type 0 where
  pub item : ℕ
  pub posting : Posting
  pub is_out : IsOutAt d item place
  pub open is_out use *
  pub there : slice_get buffers place ≡ Some (Some (filled posting))
  pub posting_is : slice_get (posted d) item ≡ Some posting

-- A closed ring gave a buffer back at exactly the places that Ring owned, each that of an item that is out.
pub record IsClosed (d : DriverSide) (c : ControllerSide) (buffers : List (Option Buffer)) : Type 0 where
  pub of_one_ring : AreOf (driver_size d) d.events c.events
  pub places : CameBackFrom (driver_size d) of_one_ring.queue.owners (GaveBack d buffers) buffers
  pub open places use *
