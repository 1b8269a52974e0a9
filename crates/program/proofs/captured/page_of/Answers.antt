use Rattle.std.proofs.Common.{◌∙◌, ap₂, List}
use Rattle.capture.specs.declared.options.Skipped.{Skipped}
use Rattle.forwarding.specs.declared.report.FlowReport.{FlowReport}
use Rattle.forward_io.specs.Skips.{skipped_text}
use Rattle.std.proofs.lemmas.Result.{IfErr-weaker, IfOk-weaker}
use Rattle.program.specs.CaptureForwards.{HasNoPage, IsPage}
use Rattle.forward_io.specs.Streams.{outlet, output_bytes}
use Rattle.requests.specs.Files.{streamed_port}
use Rattle.program.proofs.CaptureEndings.{page-of, unpaged}
use Rattle.program.proofs.captured.page_of.Goals as goal

pub returns-clause-page : goal.returns-clause-page
returns-clause-page g c =
    let flows = c.in_ok-report.report.flows.items in
    let to = outlet c.args.asked.now.printing c.args.asked.now.wires.now in
    IfOk-weaker c.page_for-page.result _ (λ p. IsPage c.args.asked.now.config.now to c.args.asked.now.intake (g.I.Read.remaining c.args.input.now) p.0.items)
    (λ p is. page-of c.args.asked.now.config.now to c.args.asked.now.intake (g.I.Read.remaining c.args.input.now) c.in_ok-script.script c.in_ok-script.skipped.items flows
    p.0.items c.in_ok-script.ensures.script c.in_ok-report.ensures.report
    (is ∙ ap₂ (λ (flows : List FlowReport) (skipped : List Skipped).
    output_bytes c.args.asked.now.printing (streamed_port c.args.asked.now.wires.now) c.args.asked.now.config.now.pairs flows (skipped_text c.args.asked.now.printing.json c.args.asked.now.intake.reading.skip skipped))
    c.as_slice-flows.ensures.value c.as_slice.ensures.value)) c.page_for-page.ensures.page

pub returns-clause-refused : goal.returns-clause-refused
returns-clause-refused g c =
    IfErr-weaker c.page_for-page.result _ (λ e. HasNoPage c.args.asked.now.config.now c.args.asked.now.intake c.args.asked.now.wires.now (g.I.Read.remaining c.args.input.now) e)
    (λ e why. unpaged c.args.asked.now.config.now c.args.asked.now.intake c.args.asked.now.wires.now (g.I.Read.remaining c.args.input.now) e c.in_ok-script.script c.in_ok-script.skipped.items c.in_ok-report.report.flows.items
    c.in_ok-script.ensures.script c.in_ok-report.ensures.report why) c.page_for-page.ensures.refused
