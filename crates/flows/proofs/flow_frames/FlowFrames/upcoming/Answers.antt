use Rattle.std.proofs.Common.{rules, ◌∙◌, ap, sym}
use Rattle.std.specs.Prelude.{Some, slice_get}
use Rattle.flows.specs.Offering.{Offering}
use Rattle.flows.proofs.Rounds.{next-is, no-next}
use Rattle.flows.proofs.flow_frames.FlowFrames.upcoming.Goals as goal

pub returns-then-self-eq0-clause-frame : goal.returns-then-self-eq0-clause-frame
returns-then-self-eq0-clause-frame c =
    let i = c.self.inside in
    sym (no-next i.script.now i.places.now i.repeat i.rounds i.at c.self.invariant.1 c.if-self-eq0.true) ∙ ap (λ (o : Offering). slice_get o.frames o.next) c.self.view_is

pub returns-clause-frame : goal.returns-clause-frame
returns-clause-frame c =
    let i = c.self.inside in let f = c.index-self-self.result in
    ap Some (c.bytes.ensures.value ∙ ap (λ x. x.bytes) (sym c.index-self-self.is))
    ∙ (sym (next-is i.script.now i.places.now i.repeat i.rounds i.at c.self.invariant.1 (search rules) f (search rules) c.index-self-self.is) ∙ ap (λ (o : Offering). slice_get o.frames o.next) c.self.view_is)
