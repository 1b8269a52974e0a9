use Rattle.std.proofs.Common.{arith}
use Rattle.std.specs.String.{string_bytes}
use Rattle.forward_io.proofs.Lines.{counters-all, counters-more}
use Rattle.forward_io.proofs.counts.write_counters.Goals as goal

pub loop-counter-preserved : goal.loop-counter-preserved
loop-counter-preserved c =
    counters-more c.args.json c.loop-counter.counter-index c.args.counters.now _ (string_bytes c.loop-counter.text) (string_bytes c.write_counter.new.text) _
    (omega arith) c.loop-counter.invariant c.in_ok-write_counter.ensures.counter

pub returns-clause-counters : goal.returns-clause-counters
returns-clause-counters c = counters-all c.args.json c.loop-counter.counter-index c.args.counters.now (string_bytes c.loop-counter.text) _ (omega arith) c.loop-counter.invariant
