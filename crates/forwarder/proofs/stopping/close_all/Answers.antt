use Rattle.std.proofs.Common.{rules, ◌≡◌, ◌∙◌, ◌∷◌}
use Rattle.std.specs.Vec.Iter.{into_iter_items}
use Rattle.forwarder.specs.Stopped.{IsStopped}
use Rattle.forwarder.proofs.Moving.{zip-first}
use Rattle.forwarder.proofs.stopping.close_all.Goals as goal

pub close_flow_rings-requires-clause-stopped : goal.close_flow_rings-requires-clause-stopped
close_flow_rings-requires-clause-stopped g c =
    let was = c.loop-flow_rings.invariant in
    let other : into_iter_items c.loop-flow_rings.stopped ≡ c.in-Some-next.flow ∷ into_iter_items c.next-in-loop-flow_rings.new.self = search rules in
    (zip-first (IsStopped c.args.pool.now) (into_iter_items c.loop-flow_rings.flow_rings-iterator) (into_iter_items c.next.new.self) c.in-Some.flow_rings
    (into_iter_items c.loop-flow_rings.stopped) (into_iter_items c.next-in-loop-flow_rings.new.self) c.in-Some-next.flow c.in-Some.ensures.steps.0 other was.stopped).0

pub loop-flow_rings-preserved : goal.loop-flow_rings-preserved
loop-flow_rings-preserved g c =
    let was = c.loop-flow_rings.invariant in
    let other : into_iter_items c.loop-flow_rings.stopped ≡ c.in-Some-next.flow ∷ into_iter_items c.next-in-loop-flow_rings.new.self = search rules in
    record {
      both = search rules;
      pool = c.close_flow_rings.ensures.pool;
      share = search rules;
      held = c.close_flow_rings.ensures.held ∙ was.held;
      stopped = (zip-first (IsStopped c.args.pool.now) (into_iter_items c.loop-flow_rings.flow_rings-iterator) (into_iter_items c.next.new.self) c.in-Some.flow_rings
          (into_iter_items c.loop-flow_rings.stopped) (into_iter_items c.next-in-loop-flow_rings.new.self) c.in-Some-next.flow c.in-Some.ensures.steps.0 other was.stopped).1;
    }
