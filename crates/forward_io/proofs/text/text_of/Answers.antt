use Rattle.std.specs.String.{string_bytes}
use Rattle.forward_io.proofs.Lines.{report-written}
use Rattle.forward_io.proofs.text.text_of.Goals as goal

pub returns-clause-text : goal.returns-clause-text
returns-clause-text c =
    report-written c.args.printing c.args.pairs c.args.flows.now c.split_at.result.0.now c.split_at.result.1.now
    (string_bytes c.in_ok-text.text) (string_bytes c.write_both.new.text) (string_bytes c.write_flows.new.text) (string_bytes c.write_flows-2.new.text) (string_bytes c.write_ports.new.text)
    c.split_at.ensures.front c.split_at.ensures.back c.in_ok-text.ensures.bytes
    c.in_ok-write_both.ensures.lines c.in_ok-write_flows.ensures.lines c.in_ok-write_flows-2.ensures.lines c.in_ok-write_ports.ensures.objects
