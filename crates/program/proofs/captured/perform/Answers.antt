use Rattle.std.proofs.Common.{◌∙◌, ap, subst}
use Rattle.std.proofs.lemmas.Result.{err_from_is_err_and}
use Rattle.requests.specs.Answers.{AppendsFirst}
use Rattle.forward_io.specs.Refusals.{refused_itself}
use Rattle.forward_io.specs.Streams.{outlet}
use Rattle.program.proofs.CaptureEndings.{unprinted, withheld}
use Rattle.program.proofs.captured.perform.Goals as goal

pub returns-in_err-bytes-clause-refused : goal.returns-in_err-bytes-clause-refused
returns-in_err-bytes-clause-refused g c =
    let p = err_from_is_err_and c.from_residual.result c.from_residual.ensures.1 in
    rw (p.1, p.2) (withheld c.args.asked.now.config.now (outlet c.args.asked.now.printing c.args.asked.now.wires.now) c.args.asked.now.intake c.args.asked.now.wires.now (g.I.Read.remaining c.args.input.now)
    (g.W.Write.contents c.args.output.now) _ c.in_err-bytes.ensures.refused)

pub returns-in_err-put-clause-refused : goal.returns-in_err-put-clause-refused
returns-in_err-put-clause-refused g c =
    let p = err_from_is_err_and c.from_residual-in_err-put.result c.from_residual-in_err-put.ensures.1 in
    rw p.1 (unprinted c.args.asked.now.config.now (outlet c.args.asked.now.printing c.args.asked.now.wires.now) c.args.asked.now.intake c.args.asked.now.wires.now (g.I.Read.remaining c.args.input.now)
    (g.W.Write.contents c.args.output.now) (g.W.Write.contents c.put.new.output) p.0 c.in_ok-bytes.bytes.items c.in_ok-bytes.ensures.page
    (subst (AppendsFirst _ _) c.as_slice.ensures.value c.in_err-put.ensures.first)
    (p.2 ∙ ap refused_itself c.in_err-put.ensures.refused))
