use Rattle.std.proofs.Common.{rules, ap, subst, sym, ◌∙◌}
use Rattle.ring_model.specs.shared.Frames.{Bytes}
use Rattle.ring_model.specs.shared.Segments.{Segment, piece_of}
use Rattle.rx_ring.specs.Ends.{ControllerSide, stored}
use Rattle.poll82599_c.specs.rings.Following.{IsBegun}
use Rattle.rx_ring.specs.Records.{RxControlled}
use Rattle.poll82599_c.proofs.Storing.{serving_ended, serving_on}
use Rattle.poll82599_c.proofs.rings.serving.RxServing.write.Goals as goal

pub invariant_of-self : goal.invariant_of-self
invariant_of-self c =
    let st = c.store.ensures in
    let s : Segment Bytes = record { number = st.number; payload = c.args.bytes.now; eop = c.args.eop } in
    serving_ended _ c.self.inside.end _ s _
    (ap (λ (x : ControllerSide). x.table) c.set_head.ensures.step ∙ (ap (λ (x : ControllerSide). x.table) st.stored_as.step ∙ c.self.invariant.own))
    (ap (λ (x : RxControlled). x.completed) c.set_head.ensures.record ∙ ap (λ (x : RxControlled). x.completed) st.stored_as.grew)
    c.if-eop.true

pub invariant_of-self-else-eop : goal.invariant_of-self-else-eop
invariant_of-self-else-eop c =
    let st = c.store.ensures in
    let s : Segment Bytes = record { number = st.number; payload = c.args.bytes.now; eop = c.args.eop } in
    serving_on _ c.self.inside.end _ s c.args.begun _
    (ap (λ (x : ControllerSide). x.table) st.stored_as.step ∙ c.self.invariant.own)
    (ap (λ (x : RxControlled). x.completed) st.stored_as.grew)
    c.if-eop.false
    (subst (λ (x : ControllerSide). IsBegun piece_of (stored x) c.args.begun) (sym c.self.view_is) c.requires.begun)
    c.with-self-inside.ensures.segments
    (search rules)
