use Rattle.commands.proofs.Endings.{done-ends, refused-ends}
use Rattle.commands.proofs.answering.answer.Goals as goal

pub returns-in-Ok-clause-ends : goal.returns-in-Ok-clause-ends
returns-in-Ok-clause-ends g c = done-ends c.args.request _ _ _ c.in-Ok.ensures.done

pub returns-in-Err-clause-ends : goal.returns-in-Err-clause-ends
returns-in-Err-clause-ends g c = rw c.refuse_request.ensures (refused-ends c.args.request _ c.in-Err.refusal _ _ c.in-Err.ensures.refused)
