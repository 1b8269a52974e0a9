use Rattle.std.proofs.lemmas.Result.{err_from_is_err_and}
use Rattle.capture.proofs.Seeking.{answered, header_faulty}
use Rattle.capture.proofs.details.fault_details.Goals as goal

pub returns-in_err-form : goal.returns-in_err-form
returns-in_err-form c =
    let p = err_from_is_err_and c.from_residual.result c.from_residual.ensures.1 in
    rw (p.1, p.2) (header_faulty c.args.number c.args.bytes.now c.in_err-form.field-0.0 c.in_err-form.ensures)

pub returns : goal.returns
returns c =
    answered c.args.number c.saturating_sub.result c.args.bytes.now c.in_ok-form.rest.now c.in_ok-form.form c.fault_after.result
    c.in_ok-form.ensures c.saturating_sub.ensures c.fault_after.ensures.found c.fault_after.ensures.err
