use Rattle.std.proofs.Common.{arith}
use Rattle.std.specs.String.{string_bytes}
use Rattle.forward_io.proofs.Lines.{wires-all, wires-more}
use Rattle.forward_io.proofs.text.write_wires.Goals as goal

pub loop-queue-preserved : goal.loop-queue-preserved
loop-queue-preserved c =
    wires-more c.args.port c.loop-queue.queue c.args.flows.now c.index-flows-queue.result (string_bytes c.loop-queue.text) (string_bytes c.write_wire.new.text) _
    (omega arith) c.index-flows-queue.is c.loop-queue.invariant c.in_ok-write_wire.ensures.lines

pub returns-clause-lines : goal.returns-clause-lines
returns-clause-lines c = wires-all c.args.port c.loop-queue.queue c.args.flows.now (string_bytes c.loop-queue.text) _ (omega arith) c.loop-queue.invariant
