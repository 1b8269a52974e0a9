use Rattle.std.proofs.Common.{inl, rules}
use Rattle.std.specs.Prelude.{IfErr}
use Rattle.std.proofs.lemmas.Result.{IfErr-weaker}
use Rattle.schedule_command.specs.Covers.{Refuses, RefusesCover, receive_scope}
use Rattle.schedule_command.proofs.covering.answering.perform.Goals as goal

pub returns-in_err-cover-clause-refused : goal.returns-in_err-cover-clause-refused
returns-in_err-cover-clause-refused g c =
    let refuses : IfErr c.from_residual.result (Refuses (receive_scope c.args.request.now)) = search rules in
    IfErr-weaker c.from_residual.result (Refuses (receive_scope c.args.request.now)) (RefusesCover c.args.request.now) (λ e r. inl r) refuses
