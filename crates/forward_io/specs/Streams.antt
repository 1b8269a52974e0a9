-- Captures on standard input and output.
use Rattle.std.specs.Prelude.{ℕ, ◌≡◌, List, ◌++◌, Option, Some, None}
use Rattle.forwarding.specs.declared.report.FlowReport.{FlowReport}
use Rattle.forward_io.specs.Text.{report_text}
use Rattle.forward_io.specs.Wires.{port_capture}
use Rattle.requests.specs.Files.{PortFile, streamed_port}
use Rattle.requests.specs.declared.printing.Printing.{Printing}

-- the standard output of a run: the wires and counts in this form, or the capture of this port instead
pub record Outlet : Type 0 where
  pub printing : Printing
  pub stream : Option ℕ

abbrev pub outlet : Printing → List PortFile → Outlet
outlet printing wires = record { printing = printing; stream = streamed_port wires }

-- the bytes of standard output for reports with `pairs` queue pairs at each port, and for the text about records that
-- were left out of captures
abbrev pub output_bytes : Printing → Option ℕ → ℕ → List FlowReport → List ℕ → List ℕ
output_bytes printing None pairs flows skipped = report_text printing pairs flows ++ skipped
output_bytes printing (Some port) pairs flows skipped = port_capture port pairs flows

-- the capture that goes to standard output, if any
abbrev pub IsStreamed : Option ℕ → ℕ → List FlowReport → Option (List ℕ) → Type 0
IsStreamed None pairs flows capture = capture ≡ None
IsStreamed (Some port) pairs flows capture = capture ≡ Some (port_capture port pairs flows)
