use Rattle.std.proofs.Common.{rules, arith, ◌≡◌, ◌∷◌, length, subst}
use Rattle.std.specs.List.{AllZip}
use Rattle.std.specs.Vec.Iter.{into_iter_items, into_iter_len}
use Rattle.std.proofs.lemmas.List.{take_all}
use Rattle.forwarder.specs.Stopped.{IsStopped}
use Rattle.forwarder.proofs.Plans.{zip-further}
use Rattle.forwarder.proofs.Walking.{Grew, flow_rings-met, meets-on}
use Rattle.forwarder.proofs.stopping.stop_all.Goals as goal

pub stop_flow-flow-requires : goal.stop_flow-flow-requires
stop_flow-flow-requires c =
    let other : into_iter_items c.loop-driver.controllers ≡ c.in-Some-next.controller ∷ into_iter_items c.next-in-loop-driver.new.self = search rules in
    record {
      of_flow_rings = flow_rings-met c.args.pool.now c.loop-driver.number (length c.args.rings.now) c.args.rings.now c.index-rings-number.result c.args.drivers.items (into_iter_items c.loop-driver.driver-iterator) (into_iter_items c.next.new.self) _ c.in-Some.driver
          c.args.controllers.items (into_iter_items c.loop-driver.controllers) (into_iter_items c.next-in-loop-driver.new.self) _ c.in-Some-next.controller c.loop-driver.stopped
          c.requires.rings c.loop-driver.invariant.both (search rules) (search rules) c.in-Some.ensures.steps.0 other;
    }

pub loop-driver-preserved : goal.loop-driver-preserved
loop-driver-preserved c =
    let was = c.loop-driver.invariant in
    let grew : Grew c.loop-driver.stopped c.push_reserved.new.self = record { len = search rules; capacity = search rules } in
    record {
      both = meets-on c.loop-driver.number (length c.args.rings.now) c.args.drivers.items (into_iter_items c.loop-driver.driver-iterator) (into_iter_items c.next.new.self)
          (into_iter_len c.loop-driver.driver-iterator) (into_iter_len c.next.new.self) c.in-Some.driver c.args.controllers.items (into_iter_items c.loop-driver.controllers) (into_iter_items c.next-in-loop-driver.new.self)
          (into_iter_len c.loop-driver.controllers) (into_iter_len c.next-in-loop-driver.new.self) c.in-Some-next.controller c.loop-driver.stopped c.push_reserved.new.self was.both c.in-Some.ensures.steps.0 (search rules) (search rules) (search rules) grew;
      stopped = zip-further (IsStopped c.args.pool.now) c.loop-driver.number c.args.rings.now c.index-rings-number.result c.loop-driver.stopped.items c.push_reserved.new.self.items c.stop_flow-flow.result
          (search rules) (search rules) c.push_reserved.ensures.items was.stopped c.stop_flow-flow.ensures;
    }

pub returns-clause-stopped : goal.returns-clause-stopped
returns-clause-stopped c =
    let was = c.loop-driver.invariant in
    let rings = c.args.rings.now in
    let end : length rings ≡ c.loop-driver.number = search rules in
    subst (λ l. AllZip (IsStopped c.args.pool.now) l c.loop-driver.stopped.items) (take_all c.loop-driver.number rings (omega (arith, end))) was.stopped
