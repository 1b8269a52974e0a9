use Rattle.std.proofs.Common.{◌≡◌, ◌∙◌, ap₂}
use Rattle.std.proofs.lemmas.Result.{IfOk-weaker}
use Rattle.forward_io.specs.Leaving.{leaving}
use Rattle.forward_io.specs.Wires.{port_capture}
use Rattle.forward_io.proofs.Records.{of-port}
use Rattle.forward_io.proofs.captured.wires.wire_capture.Goals as goal

pub returns-clause-bytes : goal.returns-clause-bytes
returns-clause-bytes c =
    let port = c.args.port in
    let flows = c.args.flows.now in
    let to = c.leaving.ensures ∙ ap₂ (leaving port) c.split_at.ensures.front c.split_at.ensures.back in
    IfOk-weaker c.capture_of_flows.result _ (λ bytes. bytes.items ≡ port_capture port c.args.pairs flows)
    (λ bytes is. is ∙ of-port port c.args.pairs flows c.leaving.result.now c.requires.port to) c.capture_of_flows.ensures.bytes
