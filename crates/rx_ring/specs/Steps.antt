-- The effects of the steps whose result depends on a loaded value.
use Rattle.std.specs.Prelude.{◌≡◌, ℕ, ◌%◌, Bool, [], length, Option, Some, None, slice_get}
use Rattle.buffer_pool.specs.Buffer.{Buffer, buffer}
use Rattle.ring_model.specs.receive.Agreement.{rx_word}
use Rattle.ring_model.specs.shared.Segments.{piece_of}
use Rattle.ring_model.specs.shared.Frames.{Bytes, Follows, unfinished}
use Rattle.shared_ring.specs.declared.events.DriverEvent.TheVariants as driver
use Rattle.shared_ring.specs.declared.events.ControllerEvent.TheVariants as controller
use Rattle.rx_ring.specs.declared.events.RxDriverOwn.TheVariants.{NotDone, Taken}
use Rattle.rx_ring.specs.declared.events.RxControllerOwn.TheVariants.{WroteBack}
use Rattle.rx_ring.specs.Ends.{DriverSide, driver_size, posted, taken, driver_grown, ControllerSide, controller_grown}

-- A6: the descriptor had no DD.
pub record FoundNothing (old : DriverSide) (place : ℕ) (new : DriverSide) : Type 0 where
  pub word : ℕ
  pub clear : word % 2 ≡ 0
  pub step : new ≡ driver_grown old (driver.Own (NotDone place word))

-- A6: the descriptor had DD, and its buffer came out.
pub record FoundSegment (old : DriverSide) (place : ℕ) (buf : Buffer) (eop : Bool) (new : DriverSide) : Type 0 where
  pub step : new ≡ driver_grown old (driver.Own (Taken place (rx_word (length buf.bytes) eop) buf))
  pub number : slice_get (posted old) (length (taken old)) ≡ Some buf.number
  pub real : buf ≡ buffer buf.number buf.bytes
  pub follows : Follows piece_of (driver_size old) (unfinished piece_of (taken old)) buf.bytes eop

abbrev pub Found : DriverSide → ℕ → Option (Buffer × Bool) → DriverSide → Type 0
Found old place None new = FoundNothing old place new
Found old place (Some x) new = FoundSegment old place x.0 x.1 new

-- A4 and A5: the descriptor was loaded as 0, and its buffer written back with these bytes.
pub record StoredAt (old : ControllerSide) (place : ℕ) (bytes : Bytes) (eop : Bool) (new : ControllerSide) : Type 0 where
  pub number : ℕ
  pub step : new ≡ controller_grown (controller_grown old (controller.Fetched place 0 (buffer number []))) (controller.Own (WroteBack place (rx_word (length bytes) eop) (buffer number bytes)))
