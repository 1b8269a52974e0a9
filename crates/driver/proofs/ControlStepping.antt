-- The asking for an enabling, and the load of what was answered.
use Rattle.std.proofs.Common.{◌≡◌, ◌∙◌, ℕ, true, false, sym, refl, ap}
use Rattle.std.proofs.lemmas.Bool.{false≢true}
use Rattle.ring_model.specs.declared.states.DriverState.{DriverState}
use Rattle.ring_model.specs.declared.states.DriverState.TheVariants.{New, Asked, On, Stopping, Stopped, Cleared, Tailed}
use Rattle.ring_model.specs.shared.Handshakes.{is_new, learned}
use Rattle.shared_ring.specs.declared.events.DriverEvent.TheVariants as driver
use Rattle.shared_ring.specs.Ends.{DriverSide, driver_record, driver_state, driver_grown}
use Rattle.shared_ring.specs.Forms.{Form}
use Rattle.shared_ring.specs.Records.{Driven}
use Rattle.driver.specs.Handshake.{asking, asked_in, AskedEnabling}

-- where nothing was asked yet, and where something was
asking_new : (s : DriverState) → is_new s ≡ true → asking s ≡ Asked
asking_new New e = refl
asking_new _ e = absurd (false≢true e)

asking_other : (s : DriverState) → is_new s ≡ false → asking s ≡ s
asking_other New e = absurd (false≢true (sym e))
asking_other Asked e = refl
asking_other On e = refl
asking_other Stopping e = refl
asking_other Stopped e = refl
asking_other Cleared e = refl
asking_other Tailed e = refl

module _ {Ring Posted Completed Reaped D C : Type 0} {form : Form Ring Posted Completed Reaped D C} where
  asked_new : (s : DriverState) (d : DriverSide form) → is_new s ≡ true → asked_in s d ≡ driver_grown d driver.AskedEnable
  asked_new New d e = refl
  asked_new _ d e = absurd (false≢true e)

  asked_other : (s : DriverState) (d : DriverSide form) → is_new s ≡ false → asked_in s d ≡ d
  asked_other New d e = absurd (false≢true (sym e))
  asked_other Asked d e = refl
  asked_other On d e = refl
  asked_other Stopping d e = refl
  asked_other Stopped d e = refl
  asked_other Cleared d e = refl
  asked_other Tailed d e = refl

  -- C1 and C4
  pub enabling-new : (old mid new : DriverSide form) (word : ℕ) → is_new (driver_state old) ≡ true
      → mid ≡ driver_grown old driver.AskedEnable → driver_record mid ≡ record (driver_record old) { state = Asked }
      → new ≡ driver_grown mid (driver.LoadedControl word) → driver_record new ≡ record (driver_record mid) { state = learned (driver_state mid) word }
      → AskedEnabling old new
  enabling-new old mid new word fresh one did step then = record {
    word = word;
    step = step ∙ ap (λ (d : DriverSide form). driver_grown d (driver.LoadedControl word)) (one ∙ sym (asked_new (driver_state old) old fresh));
    did = then ∙ (ap (λ (x : Driven Posted Reaped). let y : Driven Posted Reaped = record x { state = learned x.state word } in y) did
        ∙ ap (λ (s : DriverState). let y : Driven Posted Reaped = record (driver_record old) { state = learned s word } in y) (sym (asking_new (driver_state old) fresh)));
  }

  -- C4 alone
  pub enabling-asked : (old new : DriverSide form) (word : ℕ) → is_new (driver_state old) ≡ false
      → new ≡ driver_grown old (driver.LoadedControl word) → driver_record new ≡ record (driver_record old) { state = learned (driver_state old) word }
      → AskedEnabling old new
  enabling-asked old new word asked step did = record {
    word = word;
    step = step ∙ ap (λ (d : DriverSide form). driver_grown d (driver.LoadedControl word)) (sym (asked_other (driver_state old) old asked));
    did = did ∙ ap (λ (s : DriverState). let y : Driven Posted Reaped = record (driver_record old) { state = learned s word } in y) (sym (asking_other (driver_state old) asked));
  }
