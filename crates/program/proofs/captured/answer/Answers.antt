use Rattle.forward_io.specs.Streams.{outlet}
use Rattle.requests.specs.Files.{streamed_port}
use Rattle.program.proofs.CaptureEndings.{ends-refused, script-done, script-refused}
use Rattle.program.proofs.captured.answer.Goals as goal

pub returns-in-Ok-clause-forward : goal.returns-in-Ok-clause-forward
returns-in-Ok-clause-forward g c = λ none whole text known.
    script-done c.args.asked.now.config.now c.args.asked.now.printing (streamed_port c.args.asked.now.wires.now) c.args.asked.now.intake _ _ _ text none whole c.in-Ok.ensures.done known

pub returns-in-Err-clause-forward : goal.returns-in-Err-clause-forward
returns-in-Err-clause-forward g c = λ none whole text known.
    rw c.tell.ensures (script-refused c.args.asked.now.config.now c.args.asked.now.printing (streamed_port c.args.asked.now.wires.now) c.args.asked.now.intake c.args.asked.now.wires.now _ _ _ c.in-Err.refused text none whole
    c.in-Err.ensures.refused known)

pub returns-in-Err-clause-refused : goal.returns-in-Err-clause-refused
returns-in-Err-clause-refused g c = λ status.
    ends-refused c.args.asked.now.config.now (outlet c.args.asked.now.printing c.args.asked.now.wires.now) c.args.asked.now.intake c.args.asked.now.wires.now _ _ _ c.in-Err.refused c.in-Err.ensures.refused
