use Rattle.std.proofs.Common.{arith, ap, subst, ◌∙◌}
use Rattle.std.specs.List.{AllByRecursion}
use Rattle.std.proofs.lemmas.List.{take_all}
use Rattle.capture.specs.Reading.{capture_in}
use Rattle.capture.specs.Record.{InRange}
use Rattle.capture.specs.Writing.{capture_of}
use Rattle.capture.proofs.RoundTrip.{read_back}
use Rattle.capture.proofs.writing.write.Goals as goal

pub returns-clause-read_back : goal.returns-clause-read_back
returns-clause-read_back c = λ room.
    let whole = take_all c.loop-found.found-index c.args.records.now (omega arith) in
    ap capture_in (c.loop-found.invariant.bytes ∙ ap capture_of whole)
    ∙ read_back c.args.records.now (subst (AllByRecursion InRange) whole c.loop-found.invariant.fine) room
