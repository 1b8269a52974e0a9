use Rattle.std.proofs.Common.{◌<◌, ◌≤◌, All, length, ap, sym, subst, arith}
use Rattle.flows.specs.declared.flow_frames.TheConstants.{MOST_OFFERED}
use Rattle.forwarder.specs.Flows.{places_of}
use Rattle.forwarder.proofs.Plans.{places-few, places-low, repeated-few}
use Rattle.forwarder.proofs.sides.make_side.Goals as goal

pub new-requires : goal.new-requires
new-requires g c =
    let own = places_of c.args.config.now.pairs c.args.number c.args.script.now in
    subst (λ places. All (λ k. k < length c.frames.result.now) places) (sym c.requires.places)
    (subst (λ frames. All (λ k. k < length frames) own) (sym c.frames.ensures.value) (places-low c.args.config.now.pairs c.args.number c.args.script.now))

pub new-controller-requires-clause-few : goal.new-controller-requires-clause-few
new-controller-requires-clause-few g c =
    let few = places-few c.args.config.now.pairs c.args.number c.args.script.now in
    subst (λ fs. length fs ≤ MOST_OFFERED) (sym c.new.ensures.frames)
    (repeated-few c.args.config.now.repeat c.frames.result.now c.args.places.now c.requires.lawful.2.repeat.1 (omega (arith, few, ap length c.requires.places, ap length c.frames.ensures.value, c.frames.ensures.most)))
