-- Its five parts are the object.
use Rattle.std.proofs.Common.{◌∙◌, ◌++◌, List, ap, true}
use Rattle.std.specs.String.{string_bytes}
use Rattle.std.proofs.lemmas.Result.{on_ok_weaker}
use Rattle.forwarding.specs.declared.ports.PortQueue.{PortQueue}
use Rattle.forwarding.specs.Peers.{place}
use Rattle.counters.specs.FlowCounters.{Entry, entries}
use Rattle.forward_io.specs.Counts.{counter_texts}
use Rattle.forward_io.specs.Objects.{end_members}
use Rattle.forward_io.proofs.Lines.{object-written}
use Rattle.forward_io.proofs.objects.write_object.Goals as goal

pub returns-clause-object : goal.returns-clause-object
returns-clause-object c =
    on_ok_weaker c.write_ended.result
    (object-written c.args.port c.args.queue c.args.flow.now (string_bytes c.args.text.now) (string_bytes c.write_ends.new.text) (string_bytes c.write_counters.new.text)
    (string_bytes c.write_remaining.new.text) (string_bytes c.write_directions.new.text) (string_bytes c.write_ended.new.text)
    (c.in_ok-write_ends.ensures.members ∙ ap (λ (output : PortQueue). string_bytes c.args.text.now ++ end_members (place c.args.port c.args.queue) output) c.peer.ensures.value)
    (c.in_ok-write_counters.ensures.counters ∙ ap (λ (es : List Entry). string_bytes c.write_ends.new.text ++ counter_texts true es) (c.entries.ensures ∙ ap entries c.counters.ensures)) c.in_ok-write_remaining.ensures.members c.in_ok-write_directions.ensures.members)
    c.write_ended.ensures.member
