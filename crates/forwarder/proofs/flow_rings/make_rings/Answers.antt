use Rattle.std.proofs.Common.{rules, vec_items}
use Rattle.forwarder.specs.Rings.{AreEnds}
use Rattle.forwarder.proofs.Pairs.{pairs-more}
use Rattle.forwarder.proofs.flow_rings.make_rings.Goals as goal

pub loop-preserved : goal.loop-preserved
loop-preserved c =
    let was = c.loop.invariant in
    record {
      rings = search rules;
      ends = search rules;
      room = search rules;
      made = pairs-more (λ flow_rings ends. AreEnds c.args.config.now.ring c.args.config.now.completion flow_rings ends)
          (vec_items c.loop.rings) (vec_items c.push_reserved.new.self) c.in_ok-flow_rings.flow_rings (vec_items c.loop.ends) (vec_items c.push_reserved-in-loop.new.self) c.in_ok-flow_rings.own c.loop.counter
          (search rules) (search rules) c.push_reserved.ensures.items c.push_reserved-in-loop.ensures.items (search rules) was.made;
    }
