-- The state before and after the enabling of a queue, for rings of both directions.
use Rattle.std.specs.Prelude.{◌≡◌, true, false, [], None}
use Rattle.atomic_table.specs.Seated.{TableId}
use Rattle.ring_model.specs.declared.states.Completion.{Completion}
use Rattle.ring_model.specs.declared.states.DriverState.TheVariants.{On}
use Rattle.ring_model.specs.shared.Handshakes.{is_new, is_serving}
use Rattle.shared_ring.specs.Ends.{DriverSide, driver_record, driver_state, ControllerSide, completed, held, controller_state, is_barred}
use Rattle.shared_ring.specs.Forms.{Form}

module _ {Ring Posted Completed Reaped D C : Type 0} {form : Form Ring Posted Completed Reaped D C} where
  -- the driver has not asked for its queue to be enabled
  pub record CanAsk (ring : TableId) (driver : DriverSide form) : Type 0 where
    pub own : driver.table ≡ ring
    pub new : is_new (driver_state driver) ≡ true

  -- the driver saw its queue enabled, and did nothing else
  pub record SawEnabled (old new : DriverSide form) : Type 0 where
    pub one_ring : new.table ≡ old.table
    pub one_way : new.completion ≡ old.completion
    pub same : driver_record new ≡ record (driver_record old) { state = On }

  -- the controller does not serve the ring, and holds no buffer
  pub record CanServe (ring : TableId) (controller : ControllerSide form) : Type 0 where
    pub own : controller.table ≡ ring
    pub idle : is_serving (controller_state controller) ≡ false
    pub none_held : held controller ≡ None

  -- the controller reports in this way, serves the ring, and has served nothing yet
  pub record HasBegun (ring : TableId) (way : Completion) (controller : ControllerSide form) : Type 0 where
    pub own : controller.table ≡ ring
    pub reports : controller.completion ≡ way
    pub none_completed : completed controller ≡ []
    pub none_held : held controller ≡ None
    pub serving : is_serving (controller_state controller) ≡ true
    pub not_barred : is_barred controller ≡ false
