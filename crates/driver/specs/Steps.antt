-- Runs of steps of a driver's end.
use Rattle.std.specs.Prelude.{◌≡◌, Bool, true, false, All, List, ◌++◌}
use Rattle.shared_ring.specs.declared.events.DriverEvent.{DriverEvent}
use Rattle.shared_ring.specs.declared.events.DriverEvent.TheVariants as driver
use Rattle.shared_ring.specs.Ends.{DriverSide}
use Rattle.shared_ring.specs.Forms.{Form}

abbrev pub is_post : {D : Type 0} → DriverEvent D → Bool
is_post (driver.Posted place word buf) = true
is_post _ = false

abbrev pub is_reclaim : {D : Type 0} → DriverEvent D → Bool
is_reclaim (driver.Reclaimed place buf) = true
is_reclaim _ = false

module _ {Ring Posted Completed Reaped D C : Type 0} {form : Form Ring Posted Completed Reaped D C} where
  -- The end made steps of these kinds and no others.
  pub record Runs (kinds : DriverEvent D → Bool) (old new : DriverSide form) : Type 0 where
    pub steps : List (DriverEvent D)
    pub step : new ≡ record old { events = old.events ++ steps }
    pub only : All (λ e. kinds e ≡ true) steps
