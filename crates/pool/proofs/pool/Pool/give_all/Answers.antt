use Rattle.std.proofs.Common.{ℕ, ◌+◌, ◌-◌, List, sym, subst, take, IsPermutation}
use Rattle.pool.proofs.Moving.{IsGiving, held-first, giving-first, giving-more, all-left}
use Rattle.pool.proofs.pool.Pool.give_all.Goals as goal

pub give-requires-clause-held : goal.give-requires-clause-held
give-requires-clause-held g c =
    let n : ℕ = c.in-Some.buf.number in
    let giving = subst (IsGiving c.args.k c.loop-moved.moved c.args.pass.now.hand c.args.stash.now c.loop-moved.pass.hand) c.in-Some.ensures.left c.loop-moved.invariant.giving in
    held-first c.loop-moved.pass.hand.held n (take (c.args.k - (c.loop-moved.moved + 1)) c.take.new.self)
    (giving-first _ _ _ _ _ n c.take.new.self giving c.loop-moved-test.true)

pub loop-moved-preserved : goal.loop-moved-preserved
loop-moved-preserved g c =
    let giving = subst (IsGiving c.args.k c.loop-moved.moved c.args.pass.now.hand c.args.stash.now c.loop-moved.pass.hand) c.in-Some.ensures.left c.loop-moved.invariant.giving in
    record {
      pool = c.give.ensures.pool;
      giving = giving-more _ _ _ _ _ c.in-Some.buf.number c.take.new.self _ giving c.loop-moved-test.true c.give.ensures.given;
    }

pub returns-clause-left : goal.returns-clause-left
returns-clause-left g c = λ rest p.
    let gave = c.loop-moved.invariant.giving.gave in
    subst (λ (held : List ℕ). IsPermutation held rest) (sym gave.held) (all-left (take c.loop-moved.moved c.args.stash.now) c.args.pass.now.hand.held rest p)
