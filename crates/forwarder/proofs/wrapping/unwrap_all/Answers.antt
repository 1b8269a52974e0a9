use Rattle.std.proofs.Common.{rules, ◌≡◌, ◌∙◌, [], ◌∷◌, ◌++◌, All, ap, map, subst, sym}
use Rattle.std.specs.Vec.Iter.{into_iter_items}
use Rattle.std.proofs.lemmas.List.Elements.{All-cons}
use denote.Param.Send.{sendable}
use Rattle.flows.proofs.Sent.{controller_flow, driver_flow}
use Rattle.forwarder.specs.LiveStatistics.{DrivenGoesOn, TallyGoesOn}
use Rattle.forwarder.proofs.Moving.{moved, moved-as}
use Rattle.forwarder.proofs.wrapping.unwrap_all.Goals as goal

pub into_parts-driver-requires-send-F : goal.into_parts-driver-requires-send-F
into_parts-driver-requires-send-F c κs = search (sendable, driver_flow)

pub into_parts-controller-requires-send-F : goal.into_parts-controller-requires-send-F
into_parts-controller-requires-send-F c κs = search (sendable, controller_flow)

pub loop-driver-preserved : goal.loop-driver-preserved
loop-driver-preserved c =
    let was = c.loop-driver.invariant in
    let driver = c.in-Some.driver in
    let controller = c.in-Some-next.controller in
    let room = c.loop-driver.room in
    let rest = into_iter_items c.loop-driver.driver-iterator in
    let rest' = into_iter_items c.next.new.self in
    let others = into_iter_items c.loop-driver.controllers in
    let others' = into_iter_items c.next-in-loop-driver.new.self in
    let first : rest ≡ driver ∷ rest' = c.in-Some.ensures.steps.0 in
    let first' : others ≡ controller ∷ others' = search rules in
    let own = c.into_parts-driver in
    let its = c.into_parts-controller in
    let drivers = c.push_reserved.new.self.items in
    let controllers = c.push_reserved-in-loop-driver.new.self.items in
    let pens = c.push_reserved-in-loop-driver-2.new.self.items in
    record {
      both = search rules;
      driver_room = search rules;
      controller_room = search rules;
      pen_room = search rules;
      drivers = moved room.drivers.items drivers (map (λ w. w.flow) rest) (map (λ w. w.flow) rest') (map (λ w. w.flow) c.args.drivers.items) driver.flow was.drivers (ap (map (λ w. w.flow)) first)
          (c.push_reserved.ensures.items ∙ ap (λ f. room.drivers.items ++ f ∷ []) own.ensures.flow);
      controllers = moved room.controllers.items controllers (map (λ w. w.flow) others) (map (λ w. w.flow) others') (map (λ w. w.flow) c.args.controllers.items) controller.flow was.controllers (ap (map (λ w. w.flow)) first')
          (c.push_reserved-in-loop-driver.ensures.items ∙ ap (λ f. room.controllers.items ++ f ∷ []) its.ensures.flow);
      drive = moved-as (λ p. p.drive) room.pens.items pens (record { stat = its.result.1; drive = own.result.1 }) (map (λ w. w.pen) rest) (map (λ w. w.pen) rest') (map (λ w. w.pen) c.args.drivers.items) driver.pen was.drive
          (ap (map (λ w. w.pen)) first) c.push_reserved-in-loop-driver-2.ensures.items own.ensures.pen;
      stat = moved-as (λ p. p.stat) room.pens.items pens (record { stat = its.result.1; drive = own.result.1 }) (map (λ w. w.pen) others) (map (λ w. w.pen) others') (map (λ w. w.pen) c.args.controllers.items) controller.pen was.stat
          (ap (map (λ w. w.pen)) first') c.push_reserved-in-loop-driver-2.ensures.items its.ensures.pen;
      driven = λ all. was.driven (subst (All (λ w. DrivenGoesOn w.base w.flow.counts w.pen.last)) (sym first) (All-cons (λ w. DrivenGoesOn w.base w.flow.counts w.pen.last) driver rest'
          (subst (λ k. DrivenGoesOn driver.base driver.flow.counts k.last) own.ensures.pen (subst (λ f. DrivenGoesOn driver.base f.counts own.result.1.last) own.ensures.flow own.ensures.shown)) all));
      offered = λ all. was.offered (subst (All (λ w. TallyGoesOn w.base w.flow.tally w.pen.last)) (sym first') (All-cons (λ w. TallyGoesOn w.base w.flow.tally w.pen.last) controller others'
          (subst (λ k. TallyGoesOn controller.base controller.flow.tally k.last) its.ensures.pen (subst (λ f. TallyGoesOn controller.base f.tally its.result.1.last) its.ensures.flow its.ensures.shown)) all));
    }
