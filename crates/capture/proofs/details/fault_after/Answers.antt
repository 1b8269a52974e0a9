use Rattle.std.proofs.Common.{◌≡◌, ◌<◌, ◌∙◌, length, sym, arith}
use Rattle.std.proofs.lemmas.Bool.Decides.{nat_tests}
use Rattle.capture.specs.Sources.{entries_in, source_of}
use Rattle.capture.specs.Telling.{fault_after}
use Rattle.capture.proofs.Seeking.{ends, finds, goes_on}
use Rattle.capture.proofs.details.fault_after.Goals as goal

pub returns-in_default-clause-found : goal.returns-in_default-clause-found
returns-in_default-clause-found c =
    let some : 0 < length c.loop-rest.rest.now = omega (arith, c.piece_of-piece.ensures.shorter) in
    c.fault_in.ensures
    ∙ finds (fault_after c.args.others (entries_in (source_of c.args.form) c.args.bytes.now)) c.loop-rest.cursor c.loop-rest.left c.loop-rest.rest.now
    c.piece_of-piece.result.0 c.piece_of-piece.result.1.now c.loop-rest.invariant.seeks some c.piece_of-piece.ensures.value.0 c.piece_of-piece.ensures.value.1
    (sym c.left_after.ensures ∙ c.in_default.is)

pub loop-rest-preserved : goal.loop-rest-preserved
loop-rest-preserved c =
    let some : 0 < length c.loop-rest.rest.now = omega (arith, c.piece_of-piece.ensures.shorter) in
    record {
      seeks = rw c.in_ok-turn.ensures.turned (goes_on _ c.loop-rest.cursor c.loop-rest.left c.in-Some.fewer c.loop-rest.rest.now c.piece_of-piece.result.0 c.piece_of-piece.result.1.now
          c.loop-rest.invariant.seeks some c.piece_of-piece.ensures.value.0 c.piece_of-piece.ensures.value.1 c.piece_of-piece.ensures.shorter
          (sym c.left_after.ensures ∙ c.in-Some.is));
    }

pub returns-clause-found : goal.returns-clause-found
returns-clause-found c =
    ends (fault_after c.args.others (entries_in (source_of c.args.form) c.args.bytes.now)) c.loop-rest.cursor c.loop-rest.left c.loop-rest.rest.now c.loop-rest.invariant.seeks
    (grind (arith, nat_tests, c.is_empty.ensures, c.loop-rest-test.false))
