use Rattle.std.proofs.Common.{rules, ◌≡◌, ◌-◌, [], List, length, map, sym, subst, false}
use Rattle.buffer_pool.specs.Buffer.{Buffer}
use Rattle.buffer_pool.specs.Packed.{bytes_of}
use Rattle.forwarding.specs.Driving.{driving}
use Rattle.counters.specs.declared.driven.Driven.{Driven}
use Rattle.counters.specs.Kinds.{counted}
use Rattle.flows.specs.Driven.{Relayed, driving_of}
use Rattle.flows.proofs.FlowDrivers.{drove-all, held-all, equipped-by}
use Rattle.flows.proofs.Relays.{relays-on, relays-dropping, held-counted, batch-drained}
use Rattle.flows.proofs.flow_drivers.FlowDrivers.relay.Goals as goal

pub returns-in-Err-clause-equipped : goal.returns-in-Err-clause-equipped
returns-in-Err-clause-equipped g c =
    let k = c.args.flow_spec.now in let old = driving_of c.args.self.now in let d = c.drive.new in let new = driving d.rx d.tx d.stash d.packets.items in
    equipped-by k c.args.self.now.pass old new c.flow_spec.inside.from.now c.flow_spec.inside.to.now (search rules) (search rules) c.requires.equipped c.drive.ensures.can (held-all old new c.in-Err.ensures.refused)

pub returns-in-Err-clause-relayed : goal.returns-in-Err-clause-relayed
returns-in-Err-clause-relayed g c =
    let k = c.args.flow_spec.now in let old = driving_of c.args.self.now in let d = c.drive.new in let new = driving d.rx d.tx d.stash d.packets.items in
    let more = length new.packets - length old.packets in
    let is : c.counted.result ≡ counted c.args.counts.now more 0 0 = search rules in
    subst (λ (x : Driven). Relayed k.retries new.rx.end new.tx.end x (map bytes_of new.packets)) (sym is)
    (relays-on k.retries old new c.args.counts.now more 0 c.requires.relayed c.drive.ensures.moved (held-counted old new c.in-Err.ensures.refused))

pub returns-then-flow_spec-clause-equipped : goal.returns-then-flow_spec-clause-equipped
returns-then-flow_spec-clause-equipped g c =
    let k = c.args.flow_spec.now in let old = driving_of c.args.self.now in let d = c.drive.new in let new = driving d.rx d.tx d.stash d.packets.items in let t = c.in-Ok.turned in
    equipped-by k c.args.self.now.pass old new c.flow_spec.inside.from.now c.flow_spec.inside.to.now (search rules) (search rules) c.requires.equipped c.drive.ensures.can (drove-all t.taken t.posted old new c.in-Ok.ensures.steps)

pub returns-then-flow_spec-clause-relayed : goal.returns-then-flow_spec-clause-relayed
returns-then-flow_spec-clause-relayed g c =
    let k = c.args.flow_spec.now in let old = driving_of c.args.self.now in let d = c.drive.new in let new = driving d.rx d.tx d.stash d.packets.items in let t = c.in-Ok.turned in
    subst (λ (x : Driven). Relayed k.retries new.rx.end new.tx.end x (map bytes_of new.packets)) (sym c.counted-then-flow_spec.ensures.value)
    (relays-on k.retries old new c.args.counts.now t.taken t.posted c.requires.relayed c.drive.ensures.moved c.in-Ok.ensures.counted)

pub returns-then-flow_spec-clause-drained : goal.returns-then-flow_spec-clause-drained
returns-then-flow_spec-clause-drained g c =
    let old = driving_of c.args.self.now in let d = c.drive.new in let t = c.in-Ok.turned in
    batch-drained t.taken t.posted old (driving d.rx d.tx d.stash d.packets.items) c.in-Ok.ensures.steps (search rules)

pub drop_waiting-dropped-requires-clause-equipped : goal.drop_waiting-dropped-requires-clause-equipped
drop_waiting-dropped-requires-clause-equipped g c =
    let k = c.args.flow_spec.now in let old = driving_of c.args.self.now in let d = c.drive.new in let new = driving d.rx d.tx d.stash d.packets.items in let t = c.in-Ok.turned in
    equipped-by k c.args.self.now.pass old new c.flow_spec.inside.from.now c.flow_spec.inside.to.now (search rules) (search rules) c.requires.equipped c.drive.ensures.can (drove-all t.taken t.posted old new c.in-Ok.ensures.steps)

pub returns-clause-relayed : goal.returns-clause-relayed
returns-clause-relayed g c =
    let k = c.args.flow_spec.now in let old = driving_of c.args.self.now in let d = c.drive.new in let new = driving d.rx d.tx d.stash d.packets.items in let t = c.in-Ok.turned in let p = c.drop_waiting-dropped in
    let never : k.retries ≡ false = search rules in
    let is : c.counted-2.result ≡ counted c.args.counts.now t.taken t.posted (length new.packets) = search rules in
    let same = p.ensures.drivers in
    rw (same.0, same.1) (subst (λ (ps : List (List Buffer)). Relayed k.retries new.rx.end new.tx.end c.counted-2.result (map bytes_of ps)) (sym p.ensures.none)
    (subst (λ (x : Driven). Relayed k.retries new.rx.end new.tx.end x []) (sym is) (relays-dropping k.retries old new c.args.counts.now t.taken t.posted c.requires.relayed c.drive.ensures.moved c.in-Ok.ensures.counted never)))

pub returns-clause-drained : goal.returns-clause-drained
returns-clause-drained g c =
    let old = driving_of c.args.self.now in let d = c.drive.new in let t = c.in-Ok.turned in let same = c.drop_waiting-dropped.ensures.drivers in
    rw same.0 (batch-drained t.taken t.posted old (driving d.rx d.tx d.stash d.packets.items) c.in-Ok.ensures.steps (search rules))
