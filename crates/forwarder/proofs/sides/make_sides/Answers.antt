use Rattle.std.specs.Option.{is_some}
use Rattle.std.proofs.Common.{rules, ◌≡◌, ◌∙◌, ◌*◌, ◌<◌, [], ◌∷◌, length, map, get_or, ap, sym, subst, arith}
use Rattle.std.proofs.lemmas.List.{length-map, map-append}
use Rattle.counters.specs.Kinds.{none_taken, nothing}
use Rattle.limits.specs.declared.profile.TheConstants.{PORTS}
use Rattle.std.specs.Vec.Iter.{into_iter_items, into_iter_len}
use Rattle.forwarder.specs.Rings.{AreEnds}
use Rattle.forwarder.specs.Plans.{AreSides, plan_with}
use Rattle.forwarder.specs.declared.flow_rings.FlowRings.{FlowRings}
use Rattle.forwarder.proofs.Plans.{all-last, any-default, drop-first, drop-within, places-more}
use Rattle.forwarder.proofs.Walking.{Grew, makes-on}
use Rattle.forwarder.proofs.sides.make_sides.Goals as goal

pub make_side-side-requires-clause-places : goal.make_side-side-requires-clause-places
make_side-side-requires-clause-places g c =
    let was = c.loop-own.invariant in
    let within = drop-within c.loop-own.number c.args.ends.items c.in-Some.own _ (sym was.both.taken.rest ∙ c.in-Some.ensures.steps.0) in
    let low : c.loop-own.number < PORTS * c.args.config.now.pairs = search rules in
    c.places-places.ensures [] ∙ c.requires.ready.places c.loop-own.number [] low

pub make_side-side-requires-clause-ends : goal.make_side-side-requires-clause-ends
make_side-side-requires-clause-ends g c =
    let was = c.loop-own.invariant in
    let n = c.loop-own.number in
    let config = c.args.config.now in
    let flow_rings = c.index-rings-number.result in
    let own = c.in-Some.own in
    let first = sym was.both.taken.rest ∙ c.in-Some.ensures.steps.0 in
    let within = drop-within n c.args.ends.items own _ first in
    let low : n < PORTS * config.pairs = search rules in
    let at : get_or c.args.rings.now n flow_rings ≡ flow_rings = search rules in
    subst (λ l. AreEnds config.ring config.completion l own) at
    (subst (λ e. AreEnds config.ring config.completion (get_or c.args.rings.now n flow_rings) e) (drop-first n c.args.ends.items own _ first own) (c.requires.ready.made n flow_rings own low))

pub loop-own-preserved : goal.loop-own-preserved
loop-own-preserved g c =
    let was = c.loop-own.invariant in
    let n = c.loop-own.number in
    let config = c.args.config.now in
    let pool = c.args.pool.now in
    let flow_rings = c.index-rings-number.result in
    let side = c.make_side-side.result in
    let first = sym was.both.taken.rest ∙ c.in-Some.ensures.steps.0 in
    let made = c.make_side-side.ensures in
    let drivers = c.loop-own.drivers.items in
    let controllers = c.loop-own.controllers.items in
    let here : get_or c.args.rings.now n flow_rings ≡ flow_rings = search rules in
    let within = drop-within n c.args.ends.items c.in-Some.own _ first in
    let low : n < length c.args.rings.now = search rules in
    let at : (e : FlowRings) → get_or c.args.rings.now n e ≡ flow_rings = λ e. any-default c.args.rings.now n e flow_rings low ∙ here in
    let grew : Grew c.loop-own.drivers c.push_reserved.new.self = record { len = search rules; capacity = search rules } in
    let grew' : Grew c.loop-own.controllers c.push_reserved-in-loop-own.new.self = record { len = search rules; capacity = search rules } in
    record {
      both = makes-on n (length c.args.rings.now) c.args.ends.items (into_iter_items c.loop-own.own-iterator) (into_iter_items c.next.new.self)
          (into_iter_len c.loop-own.own-iterator) (into_iter_len c.next.new.self) c.in-Some.own c.loop-own.drivers c.push_reserved.new.self
          c.loop-own.controllers c.push_reserved-in-loop-own.new.self was.both c.in-Some.ensures.steps.0 (search rules) grew grew';
      held = made.held ∙ was.held;
      pool = made.pool;
      share = omega (arith, made.share, was.share);
      enough = omega (arith, made.share, was.enough);
      counts = all-last (λ f. f.counts ≡ none_taken) drivers c.push_reserved.new.self.items side.driver c.push_reserved.ensures.items was.counts c.make_side-side.ensures.counts;
      tallies = all-last (λ f. f.tally ≡ nothing) controllers c.push_reserved-in-loop-own.new.self.items side.controller c.push_reserved-in-loop-own.ensures.items was.tallies c.make_side-side.ensures.tally;
      sides = (λ k l d s low. places-more (λ i a b. (e : FlowRings) → AreSides (plan_with (is_some c.args.stop) config c.args.script.now i) pool (get_or c.args.rings.now i e) a b)
          (map (λ f. f.key) drivers) (map (λ f. f.key) c.push_reserved.new.self.items) side.driver.key
          (map (λ f. f.key) controllers) (map (λ f. f.key) c.push_reserved-in-loop-own.new.self.items) side.controller.key n
          (search (rules, length-map)) (search (rules, length-map))
          (ap (map (λ f. f.key)) c.push_reserved.ensures.items ∙ map-append (λ f. f.key) drivers (side.driver ∷ []))
          (ap (map (λ f. f.key)) c.push_reserved-in-loop-own.ensures.items ∙ map-append (λ f. f.key) controllers (side.controller ∷ []))
          (λ e. subst (λ l. AreSides (plan_with (is_some c.args.stop) config c.args.script.now n) pool l side.driver.key side.controller.key) (sym (at e)) c.make_side-side.ensures.sides)
          (λ i a b less e. was.sides i e a b less) k d s low l);
    }
