-- How a controller of either direction answers requests.
use Rattle.std.specs.Prelude.{◌≡◌, ◌&&◌, Bool, true, false, not, []}
use Rattle.ring_model.specs.declared.states.ControllerState.TheVariants.{Serving, Ended}
use Rattle.ring_model.specs.shared.Handshakes.{is_serving}
use Rattle.shared_ring.specs.declared.control.Control.{Control}
use Rattle.shared_ring.specs.declared.control.Control.TheVariants as control
use Rattle.shared_ring.specs.declared.events.ControllerEvent.TheVariants.{LoadedRequest, Enabled, Disabled}
use Rattle.shared_ring.specs.Ends.{ControllerSide, controller_record, controller_state, controller_grown}
use Rattle.shared_ring.specs.Forms.{Form}
use Rattle.shared_ring.specs.Words.{control_word}

module _ {Ring Posted Completed Reaped D C : Type 0} {form : Form Ring Posted Completed Reaped D C} where
  -- C2: this request was loaded and not answered.
  pub record OnlyLoaded (asked : Control) (old : ControllerSide form) (told : Control) (new : ControllerSide form) : Type 0 where
    pub told_is : told ≡ asked
    pub step : new ≡ controller_grown old (LoadedRequest (control_word asked))
    pub same : controller_record new ≡ record (controller_record old) { seen = control_word asked }

  -- C2 and C3: an enabling was loaded and answered. A new epoch begins, in which nothing is served.
  pub record WasEnabled (old : ControllerSide form) (told : Control) (new : ControllerSide form) : Type 0 where
    pub told_is : told ≡ control.Enabled
    pub step : new ≡ controller_grown (controller_grown old (LoadedRequest 1)) Enabled
    pub fresh : controller_record new ≡ record (controller_record old) { completed = []; known = 0; head = 0; state = Serving; seen = 2; barred = false }

  -- C2 and C3: a disabling was loaded and answered. Nothing more is served in this epoch.
  pub record WasDisabled (old : ControllerSide form) (told : Control) (new : ControllerSide form) : Type 0 where
    pub told_is : told ≡ control.Disabled
    pub step : new ≡ controller_grown (controller_grown old (LoadedRequest 3)) Disabled
    pub ended : controller_record new ≡ record (controller_record old) { state = Ended; seen = 0 }

  -- The effect of a loaded request. An enabling is answered if the end does not serve, a disabling if it serves.
  -- Nothing else is answered.
  abbrev pub WasTurned : Control → Bool → ControllerSide form → Control → ControllerSide form → Type 0
  WasTurned control.EnableAsked false old told new = WasEnabled old told new
  WasTurned control.EnableAsked true old told new = OnlyLoaded control.EnableAsked old told new
  WasTurned control.DisableAsked true old told new = WasDisabled old told new
  WasTurned control.DisableAsked false old told new = OnlyLoaded control.DisableAsked old told new
  WasTurned control.Disabled serving old told new = OnlyLoaded control.Disabled old told new
  WasTurned control.Enabled serving old told new = OnlyLoaded control.Enabled old told new

  pub record TurnedControl (old : ControllerSide form) (told : Control) (new : ControllerSide form) : Type 0 where
    pub asked : Control
    pub turned : WasTurned asked (is_serving (controller_state old)) old told new

  -- The end did not serve and now does. Only an answered enabling causes this.
  abbrev pub begins : ControllerSide form → ControllerSide form → Bool
  begins old new = not (is_serving (controller_state old)) && is_serving (controller_state new)
