-- The common steps of the ends of both directions that handles hold.
use Rattle.std.specs.Prelude.{◌≡◌, ◌≢◌, ℕ, zero, suc, Option}
use Rattle.buffer_pool.specs.Buffer.{Buffer}
use Rattle.shared_ring.specs.declared.ends.HandshakeStep.{HandshakeStep}
use Rattle.shared_ring.specs.declared.ends.HandshakeStep.TheVariants.{AskEnable, LoadControl, AskDisable}
use Rattle.shared_ring.specs.declared.events.DriverEvent.TheVariants as driver
use Rattle.shared_ring.specs.declared.events.ControllerEvent.TheVariants as controller
use Rattle.shared_ring.specs.Calls.{Answered}
use Rattle.shared_ring.specs.Ends.{ControllerSide, DriverSide, controller_grown, driver_grown, fill_place, next_place}
use Rattle.shared_ring.specs.Forms.{Form}
use Rattle.poll82599_c.specs.Held.{Between, OfBoth, Tried}

module _ {Ring Posted Completed Reaped D C : Type 0} {form : Form Ring Posted Completed Reaped D C} where
  -- if both are there, they are ends of one ring
  abbrev pub AreOfOne : Option (DriverSide form) → Option (ControllerSide form) → Type 0
  AreOfOne = OfBoth (λ d c. d.table ≡ c.table)

  -- the end is there before and after, and belongs to the same ring
  abbrev pub SameDriven : Option (DriverSide form) → Option (DriverSide form) → Type 0
  SameDriven = Between (λ old new. new.table ≡ old.table)

  abbrev pub SameServed : Option (ControllerSide form) → Option (ControllerSide form) → Type 0
  SameServed = Between (λ old new. new.table ≡ old.table)

  -- ---- a driver's steps

  -- A2, B2
  abbrev pub PublishedAll : DriverSide form → DriverSide form → Type 0
  PublishedAll old new = new ≡ driver_grown old (driver.Published (fill_place old))

  -- C1 and C5
  abbrev pub AskedEnable : DriverSide form → DriverSide form → Type 0
  AskedEnable old new = new ≡ driver_grown old driver.AskedEnable

  abbrev pub AskedDisable : DriverSide form → DriverSide form → Type 0
  AskedDisable old new = new ≡ driver_grown old driver.AskedDisable

  -- C4: the control word had this value
  abbrev pub LoadedControl : ℕ → DriverSide form → DriverSide form → Type 0
  LoadedControl value old new = new ≡ driver_grown old (driver.LoadedControl value)

  -- a step of the handshake with this result
  abbrev pub TriedControlStep : HandshakeStep → ℕ → DriverSide form → DriverSide form → Type 0
  TriedControlStep AskEnable answer old new = Tried AskedEnable answer old new
  TriedControlStep LoadControl answer old new = LoadedControl answer old new
  TriedControlStep AskDisable answer old new = Tried AskedDisable answer old new

  -- C6: the oldest buffer in the ring is back
  pub record ReclaimedOne (old new : DriverSide form) : Type 0 where
    pub buf : Buffer
    pub step : new ≡ driver_grown old (driver.Reclaimed (next_place old) buf)

  -- the step of a driver's operation, by its number, with this result. A direction says what it is to be renewed, what is
  -- left, and what operation 7 does.
  abbrev pub Drove : (DriverSide form → DriverSide form → Type 0) → (DriverSide form → ℕ → DriverSide form → Type 0) → (ℕ → DriverSide form → DriverSide form → Type 0) → ℕ → ℕ → ℕ → DriverSide form → DriverSide form → Type 0
  Drove Renewed FoundLeft Own zero answer count old new = Tried PublishedAll answer old new
  Drove Renewed FoundLeft Own (suc zero) answer count old new = Tried AskedEnable answer old new
  Drove Renewed FoundLeft Own (suc (suc zero)) answer count old new = LoadedControl answer old new
  Drove Renewed FoundLeft Own (suc (suc (suc zero))) answer count old new = Tried AskedDisable answer old new
  Drove Renewed FoundLeft Own (suc (suc (suc (suc zero)))) answer count old new = Tried ReclaimedOne answer old new
  Drove Renewed FoundLeft Own (suc (suc (suc (suc (suc zero))))) answer count old new = Tried Renewed answer old new
  Drove Renewed FoundLeft Own (suc (suc (suc (suc (suc (suc zero)))))) answer count old new = Tried (λ d e. FoundLeft d count e) answer old new
  Drove Renewed FoundLeft Own (suc (suc (suc (suc (suc (suc (suc zero))))))) answer count old new = Own answer old new
  Drove Renewed FoundLeft Own _ answer count old new = answer ≡ 4294967295

  -- ---- a controller's steps

  -- C2: the request was loaded, and not answered
  pub record LookedAsked (old new : ControllerSide form) : Type 0 where
    pub value : ℕ
    pub step : new ≡ controller_grown old (controller.LoadedRequest value)

  -- C2 and C3: the request was loaded, and answered
  pub record AnsweredAsked (old new : ControllerSide form) : Type 0 where
    pub value : ℕ
    pub step : Answered (controller_grown old (controller.LoadedRequest value)) new

  -- 1: the request was answered; any other result: it was not
  abbrev pub TriedAnswer : ℕ → ControllerSide form → ControllerSide form → Type 0
  TriedAnswer answer old new = (answer ≡ 1 → AnsweredAsked old new) × (answer ≢ 1 → LookedAsked old new)
