use Rattle.std.proofs.Common.{rules, ◌∙◌, ◌++◌, arith}
use Rattle.rx_ring.specs.Ends.{posted}
use Rattle.flows.proofs.Holds.{took-more}
use Rattle.flows.proofs.FlowDrivers.{posted-trans, stocks-on}
use Rattle.flows.proofs.starting.stock_up.Goals as goal

pub loop-taken-preserved : goal.loop-taken-preserved
loop-taken-preserved g c =
    let l = c.loop-taken in let r = c.refill-moved in let p = c.post_fitting in record {
      few = search rules;
      counted = (let more = took-more l.pass.hand.held r.new.pass.hand.held r.ensures.moved.numbers r.result r.ensures.moved.as_many r.ensures.moved.took.held in let so_far = l.invariant.counted in omega (arith, more, so_far));
      pool = r.ensures.pool;
      share = r.ensures.moved.took.share ∙ l.invariant.share;
      did = posted-trans c.args.end.now l.end p.new.end l.invariant.did p.ensures.posted;
      kept = stocks-on c.args.pass.now.hand.held (c.args.stash.now ++ posted c.args.end.now) l.pass.hand.held l.stash (posted l.end) r.new.pass.hand.held r.new.stash r.ensures.moved.numbers p.new.stash (posted p.new.end)
          l.invariant.kept r.ensures.moved.took.held r.ensures.moved.stashed p.ensures.kept;
    }
