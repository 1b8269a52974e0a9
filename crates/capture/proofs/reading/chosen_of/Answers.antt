use Rattle.std.proofs.Common.{◌≡◌, ◌<◌, true, false, length, ap, refl, arith, Ok}
use Rattle.std.proofs.lemmas.Bool.Decides.{nat_tests}
use Rattle.std.proofs.lemmas.Result.{err_from_is_err_and}
use Rattle.capture.specs.Choosing.{is_below}
use Rattle.capture.specs.SoFar.{nothing, with_piece}
use Rattle.capture.specs.Sources.{entries_in, source_of}
use Rattle.capture.proofs.Chosen.{carried, chosen_is, outcome}
use Rattle.capture.proofs.Loop.{all_read, enough_read, goes_on, stops}
use Rattle.capture.proofs.Steps.{go}
use Rattle.capture.proofs.reading.chosen_of.Goals as goal
use Rattle.capture.proofs.reading.chosen_of.Goals.{then-loop-gathered-test+else-wants_more, else-loop-gathered-test}

pub returns-in_err-take-clause-value : goal.returns-in_err-take-clause-value
returns-in_err-take-clause-value c =
    let some : 0 < length c.loop-gathered.rest.now = omega (arith, c.piece_of-piece.ensures.shorter) in
    let wanted : is_below c.args.options.limit (length c.loop-gathered.gathered.records) ≡ true = cc (c.wants_more.ensures, c.frames.ensures, c.if-wants_more.true) in
    let entries = entries_in (source_of c.args.form) c.args.bytes.now in
    let whole = go c.args.options.skip c.args.options.limit nothing entries in
    let e = c.in_err-take.field-0.0 in
    let p = err_from_is_err_and c.from_residual.result c.from_residual.ensures.1 in
    rw (p.1, p.2, chosen_is c.args.options entries)
    (carried e (with_piece c.args.options.skip c.loop-gathered.gathered c.piece_of-piece.result.0) (outcome whole)
    (λ bad. ap outcome (stops c.args.options whole c.loop-gathered.cursor c.loop-gathered.gathered c.loop-gathered.rest.now c.piece_of-piece.result.0 c.piece_of-piece.result.1.now e
    c.loop-gathered.invariant.reads some wanted c.piece_of-piece.ensures.value.0 c.piece_of-piece.ensures.value.1 bad))
    c.in_err-take.ensures.refused)

pub loop-gathered-preserved : goal.loop-gathered-preserved
loop-gathered-preserved c =
    let some : 0 < length c.loop-gathered.rest.now = omega (arith, c.piece_of-piece.ensures.shorter) in
    let wanted : is_below c.args.options.limit (length c.loop-gathered.gathered.records) ≡ true = cc (c.wants_more.ensures, c.frames.ensures, c.if-wants_more.true) in
    record {
      reads = rw c.in_ok-take.ensures.moved (goes_on c.args.options _ c.loop-gathered.cursor c.loop-gathered.gathered c.take.new.gathered c.loop-gathered.rest.now c.piece_of-piece.result.0 c.piece_of-piece.result.1.now
          c.loop-gathered.invariant.reads some wanted c.piece_of-piece.ensures.value.0 c.piece_of-piece.ensures.value.1 c.piece_of-piece.ensures.shorter c.in_ok-take.ensures.added);
      counted = omega (arith, c.in_ok-take.ensures.counted, c.piece_of-piece.ensures.shorter, c.loop-gathered.invariant.counted);
    }

pub returns-clause-value : goal.returns-clause-value
returns-clause-value c =
    let entries = entries_in (source_of c.args.form) c.args.bytes.now in
    let whole = go c.args.options.skip c.args.options.limit nothing entries in
    let done : whole ≡ Ok c.loop-gathered.gathered = elim c.loop-gathered-test.branch [
      | then-loop-gathered-test+else-wants_more w ↦
          let wanted : is_below c.args.options.limit (length c.loop-gathered.gathered.records) ≡ false = cc (w.wants_more.ensures, w.frames.ensures, w.if-wants_more.false) in
          enough_read c.args.options whole c.loop-gathered.cursor c.loop-gathered.gathered c.loop-gathered.rest.now c.loop-gathered.invariant.reads wanted
      | else-loop-gathered-test w ↦
          all_read c.args.options whole c.loop-gathered.cursor c.loop-gathered.gathered c.loop-gathered.rest.now c.loop-gathered.invariant.reads
          (grind (arith, nat_tests, c.is_empty.ensures, w.loop-gathered-test.false))
    ] in
    rw (chosen_is c.args.options entries, done, c.into_parts.ensures.frames, c.into_parts.ensures.skipped) refl
