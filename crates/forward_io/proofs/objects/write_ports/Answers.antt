use Rattle.std.proofs.Common.{◌≡◌, true, rules}
use Rattle.std.specs.String.{string_bytes}
use Rattle.std.proofs.lemmas.Result.{on_ok_weaker}
use Rattle.forward_io.proofs.Lines.{ports-written}
use Rattle.forward_io.proofs.objects.write_ports.Goals as goal

pub returns-clause-objects : goal.returns-clause-objects
returns-clause-objects c =
    let json : c.args.json ≡ true = search rules in
    on_ok_weaker c.write_port-2.result
    (ports-written c.args.json c.args.from_0.now c.args.from_1.now c.leaving-to_0.result.now c.leaving-to_1.result.now c.of.result c.of-2.result
    (string_bytes c.args.text.now) (string_bytes c.write_port.new.text) (string_bytes c.write_port-2.new.text)
    json c.leaving-to_0.ensures c.leaving-to_1.ensures c.of.ensures c.of-2.ensures c.in_ok-write_port.ensures.object)
    c.write_port-2.ensures.object
