use Rattle.program.proofs.Endings.{done-ends, refused-ends}
use Rattle.program.proofs.answering.answer.Goals as goal

pub returns-in-Ok-clause-ends : goal.returns-in-Ok-clause-ends
returns-in-Ok-clause-ends g c = λ text known. done-ends c.args.config.now c.args.printing _ _ _ text c.in-Ok.ensures.done known

pub returns-in-Err-clause-ends : goal.returns-in-Err-clause-ends
returns-in-Err-clause-ends g c = λ text known. rw c.refuse.ensures (refused-ends c.args.config.now c.args.printing _ c.in-Err.refusal _ _ text c.in-Err.ensures.refused known)
