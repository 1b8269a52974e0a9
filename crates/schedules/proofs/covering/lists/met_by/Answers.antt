use Rattle.std.proofs.Common.{rules}
use Rattle.schedules.proofs.Meeting.{meets}
use Rattle.schedules.proofs.covering.lists.met_by.Goals as goal

-- both tests were passed
pub returns : goal.returns
returns c = meets c.args.scope _ c.as_slice.result.now c.in_ok-queues.queues c.run.new.self c.step.new.self c.run.result c.step.result
    (c.in_ok-queues.ensures) c.run.ensures (search rules) c.step.ensures.follows (search rules) (search rules) (search rules)
