use Rattle.std.proofs.Common.{subst}
use Rattle.ring_model.specs.declared.states.Completion.{Completion}
use Rattle.ring_model.specs.Worlds.{opening_world}
use Rattle.ring_machine.specs.Queues.{QueuesAgree}
use Rattle.schedules.proofs.covering.search.queues_of.Goals as goal

pub returns-in-Ok : goal.returns-in-Ok
returns-in-Ok c = subst (λ (by : Completion). QueuesAgree c.in-Ok.queues (opening_world 1 8 (record { enabled = c.args.scope.device_only; completion = by }))) c.completion.ensures c.in-Ok.ensures.made
