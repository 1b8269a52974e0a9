-- The data are those of the plan's queues as they are made.
use Rattle.std.specs.String.{string_bytes}
use Rattle.commands.proofs.Replaying.{has-data}
use Rattle.commands.proofs.replay.content_for.Goals as goal

pub returns-clause-done : goal.returns-clause-done
returns-clause-done c = has-data c.args.plan c.args.text.now (string_bytes c.in_ok-page_of.field-0) c.in_ok-queues.queues c.if-plan.false
    (λ no. let bad = c.in_ok-queues.ensures.refused.1 no in let never : ⊥ = cc bad in never) c.in_ok-queues.ensures.made c.in_ok-page_of.ensures
