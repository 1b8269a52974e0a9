-- The invariant of a transmit ring's controller that sends.
use Rattle.std.specs.Prelude.{◌≡◌, true, false, None}
use Rattle.atomic_table.specs.Seated.{TableId}
use Rattle.ring_model.specs.declared.states.Completion.{Completion}
use Rattle.ring_model.specs.shared.Handshakes.{is_serving}
use Rattle.tx_ring.specs.Ends.{ControllerSide, held, controller_state, is_owed}

-- the controller serves the ring, holds no buffer and owes no report
pub record CanFetch (ring : TableId) (controller : ControllerSide) : Type 0 where
  pub own : controller.table ≡ ring
  pub serving : is_serving (controller_state controller) ≡ true
  pub none_held : held controller ≡ None
  pub paid : is_owed controller ≡ false

-- an end that reports in this way, after it has served
pub record HasServed (ring : TableId) (way : Completion) (controller : ControllerSide) : Type 0 where
  pub can : CanFetch ring controller
  pub reports : controller.completion ≡ way
