-- The effects of the steps whose result depends on a loaded value.
use Rattle.std.specs.Prelude.{◌≡◌, ℕ, ◌%◌, Bool, true, false, length, Some, slice_get}
use Rattle.buffer_pool.specs.Buffer.{Buffer}
use Rattle.shared_ring.specs.declared.events.DriverEvent.TheVariants as driver
use Rattle.shared_ring.specs.declared.events.ControllerEvent.TheVariants as controller
use Rattle.tx_ring.specs.declared.events.TxControllerOwn.TheVariants.{Sent}
use Rattle.tx_ring.specs.Form.{IsFetchedAs}
use Rattle.tx_ring.specs.declared.events.TxDriverOwn.TheVariants.{NoReport, SawReport, Cleaned}
use Rattle.tx_ring.specs.Records.{Posting}
use Rattle.tx_ring.specs.Rule.{filled}
use Rattle.tx_ring.specs.Plays.{report_word, shows_report}
use Rattle.tx_ring.specs.Ends.{DriverSide, driver_size, posted, cleaned, outstanding, driver_grown, ControllerSide, controller_size, controller_record, controller_grown}

-- The oldest report that was asked for and not seen is at this place.
pub record OldestAt (old : DriverSide) (place : ℕ) : Type 0 where
  pub item : ℕ
  pub oldest : outstanding old ≡ Some item
  pub at : place ≡ item % driver_size old

-- B7: the word that reports the oldest outstanding item was loaded. The result is whether it reports it.
pub record Looked (old : DriverSide) (new : DriverSide) (result : Bool) : Type 0 where
  pub item : ℕ
  pub oldest : outstanding old ≡ Some item
  pub word : ℕ
  pub shows : shows_report (driver_size old) old.events (report_word (driver_size old) old.completion item) word ≡ result
  pub nothing : result ≡ false → new ≡ driver_grown old (driver.Own (NoReport (report_word (driver_size old) old.completion item) word))
  pub report : result ≡ true → new ≡ driver_grown old (driver.Own (SawReport (report_word (driver_size old) old.completion item) word))

-- B8: the buffer is that of the oldest item that is not cleaned, as it was posted.
pub record CameClean (old : DriverSide) (place : ℕ) (buf : Buffer) (new : DriverSide) : Type 0 where
  pub item : Posting
  pub step : new ≡ driver_grown old (driver.Own (Cleaned place buf))
  pub there : slice_get (posted old) (length (cleaned old)) ≡ Some item
  pub is : buf ≡ filled item

-- B4 and B5: the descriptor was loaded, the sink took its buffer, and the head was stored.
pub record SentAt {S : Type 0} (took : S → ℕ → Buffer → S → Type 0) (old : ControllerSide) (place head : ℕ) (sink : S) (word : ℕ) (new : ControllerSide) (sink' : S) : Type 0 where
  pub buf : Buffer
  pub fetched : IsFetchedAs (controller_size old) (controller_record old) word buf
  pub taken : took sink word buf sink'
  pub step : new ≡ controller_grown (controller_grown old (controller.Fetched place word buf)) (controller.Own (Sent head word buf))
