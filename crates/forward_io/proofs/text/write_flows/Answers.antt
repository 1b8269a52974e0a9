use Rattle.std.proofs.Common.{arith}
use Rattle.std.specs.String.{string_bytes}
use Rattle.forward_io.proofs.Lines.{flows-all, flows-more}
use Rattle.forward_io.proofs.text.write_flows.Goals as goal

pub loop-queue-preserved : goal.loop-queue-preserved
loop-queue-preserved c =
    flows-more c.args.json c.args.port c.loop-queue.queue c.args.flows.now c.index-flows-queue.result (string_bytes c.loop-queue.text) (string_bytes c.write_counts.new.text) _
    (omega arith) c.index-flows-queue.is c.loop-queue.invariant c.in_ok-write_counts.ensures.counts

pub returns-clause-lines : goal.returns-clause-lines
returns-clause-lines c = flows-all c.args.json c.args.port c.loop-queue.queue c.args.flows.now (string_bytes c.loop-queue.text) _ (omega arith) c.loop-queue.invariant
