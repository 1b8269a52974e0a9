use Rattle.schedules.proofs.Foretelling.{drawn-as}
use Rattle.schedules.proofs.drawing.make.Goals as goal

pub returns-clause-draws : goal.returns-clause-draws
returns-clause-draws c = drawn-as c.args.queues.now c.step-result.new.self (record { action = c.args.action; happens = c.is_ok-happens.result }) c.step-result.result c.is_ok-happens.ensures.value c.step-result.ensures.follows
