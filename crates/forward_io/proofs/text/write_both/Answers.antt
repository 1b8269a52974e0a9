use Rattle.std.proofs.Common.{◌≡◌, false, rules}
use Rattle.std.specs.String.{string_bytes}
use Rattle.std.proofs.lemmas.Result.{on_ok_weaker}
use Rattle.forward_io.proofs.Lines.{both-written}
use Rattle.forward_io.proofs.text.write_both.Goals as goal

pub returns-clause-lines : goal.returns-clause-lines
returns-clause-lines c =
    let loud : c.args.quiet ≡ false = search rules in
    on_ok_weaker c.write_wires-2.result
    (both-written c.args.quiet c.args.from_0.now c.args.from_1.now c.leaving.result.now c.leaving-2.result.now (string_bytes c.args.text.now) (string_bytes c.write_wires.new.text)
    (string_bytes c.write_wires-2.new.text) loud c.leaving.ensures c.leaving-2.ensures c.in_ok-write_wires.ensures.lines)
    c.write_wires-2.ensures.lines
