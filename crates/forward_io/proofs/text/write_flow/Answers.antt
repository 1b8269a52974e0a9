-- Its three parts are the line.
use Rattle.std.proofs.Common.{◌∙◌, ◌++◌, List, ap, false}
use Rattle.std.specs.String.{string_bytes}
use Rattle.std.proofs.lemmas.Result.{on_ok_weaker}
use Rattle.counters.specs.FlowCounters.{Entry, entries}
use Rattle.forward_io.specs.Counts.{counter_texts}
use Rattle.forward_io.proofs.Lines.{line-written}
use Rattle.forward_io.proofs.text.write_flow.Goals as goal

pub returns-clause-line : goal.returns-clause-line
returns-clause-line c =
    on_ok_weaker c.write_ending.result
    (line-written c.args.port c.args.queue c.args.flow.now (string_bytes c.args.text.now) (string_bytes c.write.new.self) (string_bytes c.write_counters.new.text) (string_bytes c.write_ending.new.text)
    c.in_ok-write.ensures.bytes
    (c.in_ok-write_counters.ensures.counters ∙ ap (λ (es : List Entry). string_bytes c.write.new.self ++ counter_texts false es) (c.entries.ensures ∙ ap entries c.counters.ensures)))
    c.write_ending.ensures.words
