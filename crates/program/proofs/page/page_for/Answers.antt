use Rattle.std.proofs.Common.{◌∙◌, ap}
use Rattle.std.specs.String.{string_bytes}
use Rattle.std.proofs.lemmas.Result.{IfErr-weaker, IfOk-weaker, err_from_is_err_and}
use Rattle.program.specs.Forwards.{ForwardRefused, HasPage}
use Rattle.forward_io.specs.Text.{report_text}
use Rattle.program.proofs.Endings.{page-of}
use Rattle.program.proofs.Refusing.{by-forward, by-script, by-text}
use Rattle.program.proofs.page.page_for.Goals as goal

pub returns-in_err-script-clause-refused : goal.returns-in_err-script-clause-refused
returns-in_err-script-clause-refused g c =
    let p = err_from_is_err_and c.from_residual.result c.from_residual.ensures.1 in
    let why = c.in_err-script.ensures.refused in
    rw (p.1, p.2) (by-script c.args.config.now c.args.text.items _ why.0 why.1 why.2)

pub returns-in_err-report-clause-refused : goal.returns-in_err-report-clause-refused
returns-in_err-report-clause-refused g c =
    let p = err_from_is_err_and c.from_residual-in_err-report.result c.from_residual-in_err-report.ensures.1 in
    rw (p.1, p.2) (by-forward c.args.config.now c.args.text.items c.in_ok-script.script _ c.in_ok-script.ensures.script c.in_err-report.ensures.refused)

pub returns-clause-done : goal.returns-clause-done
returns-clause-done g c =
    let flows = c.in_ok-report.report.flows.items in
    IfOk-weaker c.text_of.result _ (λ page. HasPage c.args.config.now c.args.printing c.args.text.items (string_bytes page))
    (λ page is. page-of c.args.config.now c.args.printing c.args.text.items (string_bytes page) c.in_ok-script.script flows c.in_ok-script.ensures.script
    c.in_ok-report.ensures.report (is ∙ ap (λ (fs : _). report_text c.args.printing c.args.config.now.pairs fs) c.as_slice.ensures.value)) c.text_of.ensures.text

pub returns-clause-refused : goal.returns-clause-refused
returns-clause-refused g c =
    IfErr-weaker c.text_of.result _ (λ e. ForwardRefused c.args.config.now c.args.text.items e)
    (λ e is. by-text c.args.config.now c.args.text.items c.in_ok-script.script e is c.in_ok-script.ensures.script c.in_ok-report.ensures.report.fits)
    c.text_of.ensures.refused
