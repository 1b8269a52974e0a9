-- A good line is passed, and the first that is not is the answer.
use Rattle.std.proofs.Common.{◌+◌, ◌≤◌, length, List, ℕ, ap, subst, refl, ◌∙◌, arith}
use Rattle.text_lines.specs.Parts.{later_parts}
use Rattle.text_lines.proofs.Cuts.{left_len, part_counted}
use Rattle.commands.proofs.Replaying.{GoodSoFar, good-first, good-next}
use Rattle.commands.proofs.replay.faulty_line.Goals as goal

pub loop-rest-init : goal.loop-rest-init
loop-rest-init c = record { good = good-first c.args.text.now; lines = omega arith }

pub loop-rest-preserved : goal.loop-rest-preserved
loop-rest-preserved c =
    let same = ap (later_parts 10) c.in-Some.is ∙ c.cut.ensures.parts in
    let before = subst (λ (lines : List (List ℕ)). GoodSoFar c.args.text.now c.loop-rest.number lines) same c.loop-rest.invariant.good in
    let so_far = subst (λ rest. c.loop-rest.number + left_len rest ≤ length c.args.text.now + 1) c.in-Some.is c.loop-rest.invariant.lines in
    record {
      good = good-next c.args.text.now c.loop-rest.number c.cut.result.0.now (later_parts 10 c.cut.result.1) (c.if-not-is_good.ensures.read refl) before;
      lines = part_counted c.loop-rest.number (length c.in-Some.left.now) (length c.args.text.now + 1) c.cut.result.1 c.cut.ensures.shorter so_far;
    }
