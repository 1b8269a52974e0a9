-- Enabling and disabling by a driver of either direction, in terms of its end's record.
use Rattle.std.specs.Prelude.{◌≡◌, ℕ, ◌⊎◌, true, false, Option, Some, None}
use Rattle.ring_model.specs.declared.states.DriverState.{DriverState}
use Rattle.ring_model.specs.declared.states.DriverState.TheVariants.{New, Asked}
use Rattle.ring_model.specs.shared.Handshakes.{is_stopped, learned}
use Rattle.shared_ring.specs.declared.events.DriverEvent.TheVariants as driver
use Rattle.shared_ring.specs.Ends.{DriverSide, driver_record, driver_state, driver_grown}
use Rattle.shared_ring.specs.Forms.{Form}

-- Enabling is asked if nothing was asked yet.
abbrev pub asking : DriverState → DriverState
asking New = Asked
asking state = state

module _ {Ring Posted Completed Reaped D C : Type 0} {form : Form Ring Posted Completed Reaped D C} where
  abbrev pub asked_in : DriverState → DriverSide form → DriverSide form
  asked_in New d = driver_grown d driver.AskedEnable
  asked_in _ d = d

  -- C1 if nothing was asked yet, and then C4.
  pub record AskedEnabling (old new : DriverSide form) : Type 0 where
    pub word : ℕ
    pub step : new ≡ driver_grown (asked_in (driver_state old) old) (driver.LoadedControl word)
    pub did : driver_record new ≡ record (driver_record old) { state = learned (asking (driver_state old)) word }

  -- C4, which shows no answer to a disabling.
  pub record NotFinished (old new : DriverSide form) : Type 0 where
    pub word : ℕ
    pub step : new ≡ driver_grown old (driver.LoadedControl word)
    pub did : driver_record new ≡ record (driver_record old) { state = learned (driver_state old) word }
    pub unanswered : is_stopped (driver_state new) ≡ false

  -- The disabling was seen answered before. Nothing is done.
  pub record HasFinished (old new : DriverSide form) : Type 0 where
    pub answered : is_stopped (driver_state old) ≡ true
    pub same : new ≡ old

  -- C4, which shows the disabling answered, and a load of the head, which shows how many are left.
  pub record Finished (told : DriverSide form → Option ℕ) (old : DriverSide form) (left : ℕ) (new : DriverSide form) : Type 0 where
    pub word : ℕ
    pub head : ℕ
    pub going : is_stopped (driver_state old) ≡ false
    pub step : new ≡ driver_grown (driver_grown old (driver.LoadedControl word)) (driver.LoadedHead head)
    pub did : driver_record new ≡ record (driver_record old) { state = learned (driver_state old) word }
    pub answered : is_stopped (driver_state new) ≡ true
    pub left_is : told new ≡ Some left

  -- The effect of a call that may see the disabling answered. `told` is the number left, as the end knows it.
  abbrev pub Finishes : (DriverSide form → Option ℕ) → DriverSide form → Option ℕ → DriverSide form → Type 0
  Finishes told old None new = HasFinished old new ⊎ NotFinished old new
  Finishes told old (Some left) new = Finished told old left new
