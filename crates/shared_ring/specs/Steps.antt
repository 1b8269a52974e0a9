-- The effects of the shared steps whose result depends on a loaded value.
use Rattle.std.specs.Prelude.{◌≡◌, ℕ, ◌<◌, ◌≤◌, length, Some, slice_get}
use Rattle.buffer_pool.specs.Buffer.{Buffer}
use Rattle.shared_ring.specs.declared.events.DriverEvent.TheVariants as driver
use Rattle.shared_ring.specs.declared.events.ControllerEvent.TheVariants as controller
use Rattle.shared_ring.specs.Ends.{DriverSide, posted, returned, driver_grown, ControllerSide, controller_size, controller_record, completed, controller_grown}
use Rattle.shared_ring.specs.Forms.{Form}
use Rattle.shared_ring.specs.Records.{count_at}

module _ {Ring Posted Completed Reaped D C : Type 0} {form : Form Ring Posted Completed Reaped D C} where
  -- C6: the buffer of the oldest posting that is out came back.
  pub record CameBack (old : DriverSide form) (place : ℕ) (buf : Buffer) (new : DriverSide form) : Type 0 where
    pub step : new ≡ driver_grown old (driver.Reclaimed place buf)
    pub item : Posted
    pub there : slice_get (posted old) (returned old) ≡ Some item
    pub is_of : form.IsOf item buf

  -- A3, B3: the tail (RDT, TDT) was loaded.
  pub record FoundTail (old : ControllerSide form) (tail : ℕ) (new : ControllerSide form) : Type 0 where
    pub step : new ≡ controller_grown old (controller.Looked tail)
    pub below : tail < controller_size old
    pub grows : (controller_record old).known ≤ count_at (controller_size old) (length (completed old)) tail

  -- A4, B4: the next descriptor was loaded, and its buffer came out.
  pub record CameOut (old : ControllerSide form) (place : ℕ) (buf : Buffer) (word : ℕ) (new : ControllerSide form) : Type 0 where
    pub step : new ≡ controller_grown old (controller.Fetched place word buf)
    pub fetched : form.IsFetched (controller_size old) (controller_record old) word buf
