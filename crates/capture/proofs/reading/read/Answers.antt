use Rattle.std.proofs.lemmas.Result.{err_from_is_err_and}
use Rattle.capture.proofs.Whole.{all_read, all_refused}
use Rattle.capture.proofs.reading.read.Goals as goal

pub returns-in_err-capture : goal.returns-in_err-capture
returns-in_err-capture c =
    let p = err_from_is_err_and c.from_residual.result c.from_residual.ensures.1 in
    rw (p.1, p.2) (all_refused c.default.result c.args.bytes.now c.in_err-capture.field-0.0 c.default.ensures.0 c.default.ensures.1 c.in_err-capture.ensures)

pub returns : goal.returns
returns c =
    all_read c.default.result c.args.bytes.now c.in_ok-capture.capture c.in_ok-capture.field-0-1 c.default.ensures.0 c.default.ensures.1 c.in_ok-capture.ensures
