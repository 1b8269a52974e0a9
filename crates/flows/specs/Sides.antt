-- The views of the two sides of a flow in contracts.
use Rattle.std.specs.Prelude.{Bool, true, false, ◌&&◌}
use Rattle.counters.specs.declared.tally.Tally.{Tally}
use Rattle.flows.specs.Keys.{ControllerKey}
use Rattle.flows.specs.Served.{RxSource, TxSink}
use Rattle.flows.specs.declared.queue_phase.QueuePhase.{QueuePhase}
use Rattle.flows.specs.declared.queue_phase.QueuePhase.TheVariants.{Waiting, Serving, Ended}

-- The controller's side: its key, the tally of its frames, the phase of each queue, and the queues as it serves them.
pub record Controlling : Type 0 where
  pub key : ControllerKey
  pub tally : Tally
  pub receiving : QueuePhase
  pub sending : QueuePhase
  pub source : RxSource
  pub sink : TxSink

abbrev pub has_ended : QueuePhase → Bool
has_ended Waiting = false
has_ended Serving = false
has_ended Ended = true

-- Both disablings were answered.
abbrev pub has_served : Controlling → Bool
has_served c = has_ended c.receiving && has_ended c.sending
