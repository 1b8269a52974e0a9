use Rattle.std.proofs.Common.{◌≡◌, ◌++◌, drop}
use Rattle.capture.specs.Writing.{capture_of}
use Rattle.capture.specs.Records.{records_from}
use Rattle.forward_io.specs.Text.{wires_from}
use Rattle.forward_io.proofs.Records.{bytes_from}
use Rattle.forward_io.proofs.captured.wires.capture_of_flows.Given as goal

abbrev pub invariant-loop-flow : goal.invariant-loop-flow
invariant-loop-flow l = l.bytes.items ++ bytes_from l.number (wires_from l.port l.flow-index (drop l.flow-index l.flows)) ≡ capture_of (records_from 0 (wires_from l.port 0 l.flows))
