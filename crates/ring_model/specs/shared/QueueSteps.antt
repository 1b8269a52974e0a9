-- The steps of every queue, in both directions.
use Rattle.std.specs.Prelude.{Bool}
use Rattle.ring_model.specs.declared.steps.ControlStep.{ControlStep}

-- One step. A ring decides what is posted, completed and reaped, and whether a disabling may be answered.
pub data QueueStep (Posted Completed Reaped : Type 0) : Type 0 where
  Post : Posted → QueueStep Posted Completed Reaped
  Publish : QueueStep Posted Completed Reaped
  Look : QueueStep Posted Completed Reaped
  Fetch : QueueStep Posted Completed Reaped
  Complete : Completed → QueueStep Posted Completed Reaped
  Head : QueueStep Posted Completed Reaped
  Reap : Reaped → QueueStep Posted Completed Reaped
  Controls : ControlStep → Bool → QueueStep Posted Completed Reaped
  Reclaim : QueueStep Posted Completed Reaped
  ClearHead : QueueStep Posted Completed Reaped
  ClearTail : QueueStep Posted Completed Reaped
  Renew : QueueStep Posted Completed Reaped
