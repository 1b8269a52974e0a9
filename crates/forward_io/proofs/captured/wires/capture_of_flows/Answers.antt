use Rattle.std.proofs.Common.{◌≡◌, ◌++◌, ◌+◌, drop, sym, subst, arith}
use Rattle.capture.specs.Writing.{capture_of}
use Rattle.capture.specs.Records.{records_from}
use Rattle.forward_io.specs.Text.{wires_from}
use Rattle.forward_io.proofs.Records.{bytes_from, wire-more}
use Rattle.forward_io.proofs.captured.wires.capture_of_flows.Goals as goal

pub loop-flow-preserved : goal.loop-flow-preserved
loop-flow-preserved c =
    let port = c.args.port in
    let flows = c.args.flows.now in
    let k = c.loop-flow.flow-index in
    let whole = capture_of (records_from 0 (wires_from port 0 flows)) in
    subst (λ (number : _). c.write_wire.new.bytes.items ++ bytes_from number (wires_from port (k + 1) (drop (k + 1) flows)) ≡ whole) (sym c.in_ok-number.ensures.counted)
    (wire-more port k c.loop-flow.number flows c.flow-item.result c.loop-flow.bytes.items c.write_wire.new.bytes.items whole (omega arith) c.flow-item.is
    c.loop-flow.invariant c.in_ok-number.ensures.written)
