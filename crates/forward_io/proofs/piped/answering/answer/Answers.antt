use Rattle.forward_io.proofs.Piping.{done-ends, refused-ends}
use Rattle.forward_io.specs.Meanings.{meant}
use Rattle.forward_io.proofs.piped.answering.answer.Goals as goal

pub returns-in-Ok-clause-ends : goal.returns-in-Ok-clause-ends
returns-in-Ok-clause-ends g c = λ bytes known. done-ends (meant c.args.request) _ _ _ bytes c.in-Ok.ensures.done known

pub returns-in-Err-clause-ends : goal.returns-in-Err-clause-ends
returns-in-Err-clause-ends g c = λ bytes known. rw c.refuse_explained-status.ensures (refused-ends (meant c.args.request) _ c.in-Err.refusal _ _ bytes c.in-Err.ensures.refused known)
