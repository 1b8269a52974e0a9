use Rattle.std.proofs.Common.{◌≡◌, ◌∙◌, ap, ap₂, ℕ, sym, subst, Some}
use Rattle.requests.specs.Conversions.{IsPlaced}
use Rattle.requests.specs.declared.conversion.CaptureRequest.{CaptureRequest}
use Rattle.requests.specs.declared.conversion.CaptureRequest.TheVariants.{FromCapture}
use Rattle.command_line.proofs.captures.from_capture_in.Goals as goal

pub returns-clause-value : goal.returns-clause-value
returns-clause-value c port queue reading has =
    let same : FromCapture c.in_ok-port.port c.in_ok-queue.queue c.reading_in-reading.result ≡ FromCapture port queue reading =
    ap₂ (λ (p q : ℕ). FromCapture p q c.reading_in-reading.result) (c.in_ok-port.ensures port has.has_port) (c.in_ok-queue.ensures queue has.has_queue)
    ∙ ap (FromCapture port queue) (c.reading_in-reading.ensures reading has.has_reading) in
    c.placed.ensures.value (subst IsPlaced (sym same) (has.port_is, has.has_queue.low)) ∙ ap (λ (r : CaptureRequest). Some r) same
