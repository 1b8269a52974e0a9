use Rattle.std.proofs.Common.{◌≡◌, ◌∙◌, ℕ, ◌+◌, ◌*◌, ◌≤◌, List, [], ◌∷◌, ◌++◌, length, length-append, sym, ap, subst, arith}
use Rattle.schedules.specs.declared.drawing.Drawn.{Drawn}
use Rattle.schedules.specs.Drawing.{allowed}
use Rattle.schedules.proofs.Foretelling.{SoFar, has-some, next-drawn, pushed}
use Rattle.schedules.proofs.drawing.draw.Goals as goal

pub loop-k-preserved : goal.loop-k-preserved
loop-k-preserved c =
    let l = c.loop-k in let d = c.draw_next-next.result in
    let some = has-some c.args.plan.now (λ off. let bad = c.in_ok-queues.ensures.refused.1 off in let never : ⊥ = cc bad in never) in
    let next = next-drawn c.args.plan.now l.drawn.items l.queues c.draw_next-next.new.queues d l.refused c.from-refused.result c.is_owed.result some
    c.draw_next-next.ensures.draws c.draw_next-next.ensures.happens
    (λ is. subst (λ (k : ℕ). 100 * (l.refused + 1) ≤ allowed c.args.plan.now * (k + 1)) (sym l.invariant.place) (c.is_owed.ensures is))
    c.from-refused.ensures l.invariant.so_far in
    let is = pushed l.drawn.items c.push.new.self.items d c.push.result c.push.ensures.items (sym c.if-is_err.false ∙ c.is_err.ensures.value) in
    let long : length (l.drawn.items ++ d ∷ []) ≡ l.k + 1 = length-append l.drawn.items (d ∷ []) ∙ ap (λ (k : ℕ). k + 1) l.invariant.place in
    record {
      so_far = subst (λ (xs : List Drawn). SoFar c.args.plan.now xs (l.refused + c.from-refused.result) c.draw_next-next.new.queues) (sym is) next;
      place = ap (λ (xs : List Drawn). length xs) is ∙ long;
      most = let counted = next.counted in omega arith;
    }
