use Rattle.std.proofs.Common.{◌≡◌, ℕ, ◌+◌, ◌-◌, [], length, refl, sym, ap, ◌∙◌, arith}
use Rattle.buffer_pool.specs.Buffer.{buffer}
use Rattle.crossbeam_queue.specs.Passes.{view}
use Rattle.pool.specs.declared.hand.Hand.{Hand}
use Rattle.pool.specs.declared.hand.TheConstants.{WHOLE_SHARE}
use Rattle.pool.specs.Hands.{fresh_hand}
use Rattle.pool.proofs.Rules.{adds, learns}
use Rattle.pool.proofs.Filling.{left-first, left-next, added-fresh}
use Rattle.pool.proofs.pool.fill.Goals as goal

pub loop-buf-init : goal.loop-buf-init
loop-buf-init g c =
    let first = left-first c.args.stock c.requires.stock in
    record {
      same = (refl, refl, refl);
      filled = rw first.1 c.requires.fresh;
      left = first.0;
    }

pub push_as-requires-clause-rule : goal.push_as-requires-clause-rule
push_as-requires-clause-rule g c =
    let next = left-next c.loop-buf.stock c.take.new.self c.args.stock.count c.in-Some.buf.number c.loop-buf.invariant.left c.in-Some.ensures.left in
    let whole : (view c.loop-buf.pass).share ≡ WHOLE_SHARE = ap (λ (v : Hand). v.share) c.loop-buf.invariant.filled in
    let count = ap (λ (v : Hand). v.count) c.loop-buf.invariant.filled in
    let ready = c.in-Some.ensures.empty ∙ ap (λ (n : ℕ). buffer n []) (next.is ∙ sym count) in
    (adds _ _ _ _ whole ready, learns _ _ (omega (arith, whole)))

pub loop-buf-preserved : goal.loop-buf-preserved
loop-buf-preserved g c =
    let next = left-next c.loop-buf.stock c.take.new.self c.args.stock.count c.in-Some.buf.number c.loop-buf.invariant.left c.in-Some.ensures.left in
    let i : ℕ = c.args.stock.count - length c.loop-buf.stock.numbers in
    let step = c.push_as.ensures.queue in
    let before = c.loop-buf.invariant.same in
    let added : view c.push_as.new.pass ≡ fresh_hand (i + 1) =
    added-fresh (view c.loop-buf.pass) (view c.push_as.new.pass) c.in-Some.buf i c.loop-buf.invariant.filled next.is c.in-Ok.ensures.rule in
    let one_more : i + 1 ≡ c.args.stock.count - length c.take.new.self.numbers = omega (arith, next.is, next.below) in
    record {
      same = (step.0 ∙ before.0, step.1 ∙ before.1, step.2 ∙ before.2);
      filled = rw (← one_more) added;
      left = next.left;
    }
