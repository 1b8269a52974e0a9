use Rattle.std.proofs.Common.{arith, ap, subst, ◌∙◌}
use Rattle.std.specs.List.{AllByRecursion}
use Rattle.std.proofs.lemmas.List.{take_all}
use Rattle.wire_script.specs.Frame.{InRange}
use Rattle.wire_script.specs.Script.{script_of, text_for}
use Rattle.wire_script.proofs.RoundTrip.{read_back}
use Rattle.wire_script.proofs.printing.print.Goals as goal

pub returns-clause-read_back : goal.returns-clause-read_back
returns-clause-read_back c = λ room.
    let whole = take_all c.loop-frame.frame-index c.args.frames.now (omega arith) in
    ap script_of (c.loop-frame.invariant.text ∙ ap text_for whole)
    ∙ read_back c.args.frames.now (subst (AllByRecursion InRange) whole c.loop-frame.invariant.wire) room
