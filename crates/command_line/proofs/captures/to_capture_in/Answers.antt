use Rattle.std.proofs.Common.{◌≡◌, ◌∙◌, ap, sym, subst, Some}
use Rattle.requests.specs.Conversions.{IsPlaced}
use Rattle.requests.specs.declared.conversion.CaptureRequest.{CaptureRequest}
use Rattle.requests.specs.declared.conversion.CaptureRequest.TheVariants.{ToCapture}
use Rattle.command_line.proofs.captures.to_capture_in.Goals as goal

pub returns-clause-value : goal.returns-clause-value
returns-clause-value c port has =
    let same : ToCapture c.in_ok-port.port ≡ ToCapture port = ap ToCapture (c.in_ok-port.ensures port has.has_port) in
    c.placed.ensures.value (subst IsPlaced (sym same) has.port_is) ∙ ap (λ (r : CaptureRequest). Some r) same
