-- The capture of the frames that leave a port.
use Rattle.std.specs.Prelude.{◌≡◌, ◌⊎◌, ℕ, List, drop, take}
use Rattle.capture.specs.Writing.{capture_of}
use Rattle.refusals.specs.declared.errors.CaptureError.TheVariants as errors
use Rattle.capture.specs.Records.{records_of_port}
use Rattle.requests.specs.declared.refusal.Refusal.{Refusal}
use Rattle.requests.specs.declared.refusal.Refusal.TheVariants as refusal
use Rattle.forwarding.specs.declared.report.FlowReport.{FlowReport}
use Rattle.forward_io.specs.Text.{wires_of}

-- a port's capture from a report with `pairs` queue pairs at each port: the frames of that port, in the order of
-- `forward`
abbrev pub port_capture : ℕ → ℕ → List FlowReport → List ℕ
port_capture port pairs flows = capture_of (records_of_port port (wires_of (take pairs flows) (drop pairs flows)))

-- memory is missing, or a frame, counted from 1, has a length that does not fit a capture
abbrev pub IsUncaptured : Refusal → Type 0
IsUncaptured e = (e ≡ refusal.Memory) ⊎ ((k : ℕ) × (e ≡ refusal.Capture (errors.FrameLength k)))
