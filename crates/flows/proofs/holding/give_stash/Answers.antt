use Rattle.std.proofs.Common.{◌∙◌, [], refl, arith}
use Rattle.flows.proofs.Holds.{keeps-on, holds-on, is-held, gave-less, gave-one}
use Rattle.flows.proofs.holding.give_stash.Goals as goal

pub give-requires-clause-held : goal.give-requires-clause-held
give-requires-clause-held g c =
    let l = c.loop-buf in is-held l.pass.hand.held l.stash c.in-Some.buf.number [] c.take.new.self c.in-Some.ensures.left
    (holds-on c.args.pass.now.hand.held c.args.stash.now l.pass.hand.held l.stash c.requires.held l.invariant.kept)

pub loop-buf-preserved : goal.loop-buf-preserved
loop-buf-preserved g c =
    let l = c.loop-buf in let held = c.args.pass.now.hand.held in let had = c.args.stash.now in let new = c.give.new.pass.hand.held in let rest = c.take.new.self in
    let holds = holds-on held had l.pass.hand.held l.stash c.requires.held l.invariant.kept in
    let gave = gave-one l.pass.hand.held l.stash new rest c.in-Some.buf.number [] rest c.in-Some.ensures.left refl holds c.give.ensures.given.held in record {
      pool = c.give.ensures.pool;
      share = c.give.ensures.given.share ∙ l.invariant.share;
      fewer = (let less = gave-less l.pass.hand.held l.stash new rest c.in-Some.buf.number [] rest c.in-Some.ensures.left refl gave in let so_far = l.invariant.fewer in omega (arith, less, so_far));
      kept = keeps-on held had l.pass.hand.held l.stash new rest l.invariant.kept gave;
    }
