use Rattle.std.proofs.Common.{ap, ◌∙◌}
use Rattle.std.proofs.lemmas.Result.{err_from_is_err_and}
use Rattle.capture.proofs.Whole.{header_faulty, read_on, record_faulty, with_unit}
use Rattle.capture.proofs.reading.read_with.Goals as goal

pub returns-in_err-form : goal.returns-in_err-form
returns-in_err-form c =
    let p = err_from_is_err_and c.from_residual.result c.from_residual.ensures.1 in
    rw (p.1, p.2) (header_faulty c.args.options c.args.bytes.now c.in_err-form.field-0.0 c.in_err-form.ensures)

pub returns-in_err-records : goal.returns-in_err-records
returns-in_err-records c =
    let p = err_from_is_err_and c.from_residual-in_err-records.result c.from_residual-in_err-records.ensures.1 in
    rw (p.1, p.2) (record_faulty c.args.options c.args.bytes.now c.in_ok-form.rest.now c.in_ok-form.form c.in_err-records.field-0.0
    c.in_ok-form.ensures c.in_err-records.ensures.value)

pub returns : goal.returns
returns c =
    rw c.new.ensures (read_on c.args.options c.args.bytes.now c.in_ok-form.rest.now c.in_ok-form.form c.in_ok-form.ensures
    ∙ ap (with_unit c.in_ok-form.form) c.in_ok-records.ensures.value)
