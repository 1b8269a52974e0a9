-- The flows whose frames leave at a port.
use Rattle.std.specs.Prelude.{ℕ, ◌==◌, if◌then◌else◌, List}
use Rattle.forwarding.specs.declared.report.FlowReport.{FlowReport}
use Rattle.forwarding.specs.Peers.{peer, place}

-- of the flows that came in at port 0, and of those of port 1
abbrev pub leaving : ℕ → List FlowReport → List FlowReport → List FlowReport
leaving port front back = if (peer (place 0 0)).port == port then front else back
