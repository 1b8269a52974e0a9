-- A line that doesn't end the list is passed, and the first that does is the answer.
use Rattle.std.proofs.Common.{◌≡◌, ◌∙◌, ap, sym, subst, refl, length}
use Rattle.commands.proofs.Cutting.{CutSoFar, before-left, cut-ended, cut-next, still-shorter}
use Rattle.commands.proofs.lists.cut_list.Goals as goal

pub returns-then-ends_list : goal.returns-then-ends_list
returns-then-ends_list c =
    let here = subst (λ rest. CutSoFar c.args.text.now c.loop-rest.has_moves rest) c.in-Some.is c.loop-rest.invariant in
    record {
      cut = cut-ended c.args.text.now c.cut.result.0.now _ c.loop-rest.has_moves c.in-Some.left c.cut.result.1 c.cut.ensures.parts (sym c.if-ends_list.ensures) here
          (λ head is. before-left head c.in-Some.left.now c.args.text.now is);
      shorter = still-shorter c.args.text.now c.loop-rest.has_moves c.in-Some.left c.cut.result.1 c.cut.ensures.shorter here;
    }

pub loop-rest-preserved : goal.loop-rest-preserved
loop-rest-preserved c =
    let here = subst (λ rest. CutSoFar c.args.text.now c.loop-rest.has_moves rest) c.in-Some.is c.loop-rest.invariant in
    cut-next c.args.text.now c.cut.result.0.now c.loop-rest.has_moves c.says_something-has_moves.result c.in-Some.left c.cut.result.1 c.cut.ensures.parts (sym c.if-ends_list.ensures)
    c.says_something-has_moves.ensures here
