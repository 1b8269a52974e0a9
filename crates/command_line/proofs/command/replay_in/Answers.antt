use Rattle.std.proofs.Common.{ap, Option, unwrap_or}
use Rattle.std.specs.Prelude.{not}
use Rattle.requests.specs.declared.replay.ReplayOutput.{ReplayOutput}
use Rattle.command_line.proofs.ReplayWords.{begins_as, plan_is}
use Rattle.command_line.proofs.command.replay_in.Goals as goal

pub returns : goal.returns
returns c plan has =
    plan_is plan _ _ _ _ _ _ (c.in_ok-pairs.ensures plan.pairs has.queues.pairs) (c.in_ok-ring.ensures plan.ring has.queues.ring)
    (begins_as plan.enabled _ (c.flag_in-enabled.ensures (not plan.enabled) has.queues.off)) (c.completion_in-completion.ensures plan.completion has.queues.head)
    (c.flag_in-lists.ensures plan.lists has.lists)
    (ap (λ (o : Option ReplayOutput). unwrap_or o plan.shown) (c.in_ok-shown.ensures plan.shown has.shown))
