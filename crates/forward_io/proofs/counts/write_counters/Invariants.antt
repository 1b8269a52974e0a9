use Rattle.std.proofs.Common.{◌≡◌, ◌++◌, drop, map}
use Rattle.std.specs.String.{string_bytes}
use Rattle.counters.specs.FlowCounters.{entry_of}
use Rattle.forward_io.specs.Counts.{counter_texts}
use Rattle.forward_io.proofs.counts.write_counters.Given as goal

abbrev pub invariant-loop-counter : goal.invariant-loop-counter
invariant-loop-counter l =
    string_bytes l.text ++ counter_texts l.json (map entry_of (drop l.counter-index l.counters)) ≡ string_bytes l.initial.text ++ counter_texts l.json (map entry_of l.counters)
