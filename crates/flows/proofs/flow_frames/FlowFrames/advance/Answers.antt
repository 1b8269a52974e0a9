use Rattle.std.proofs.Common.{◌∙◌, ◌+◌, ◌<◌, ap, sym, subst, length}
use Rattle.flows.specs.Offering.{Offering}
use Rattle.flows.proofs.Rounds.{goes-on, is-left, next-anew}
use Rattle.flows.proofs.flow_frames.FlowFrames.advance.Goals as goal

pub overflow_sub-self : goal.overflow_sub-self
overflow_sub-self c =
    let i = c.self.inside in
    is-left i.script.now i.places.now i.repeat i.rounds i.at c.self.invariant.1 (subst (λ (o : Offering). o.next < length o.frames) (sym c.self.view_is) c.requires)

pub invariant_of-self-else-self : goal.invariant_of-self-else-self
invariant_of-self-else-self c =
    let i = c.self.inside in
    let left = is-left i.script.now i.places.now i.repeat i.rounds i.at c.self.invariant.1 (subst (λ (o : Offering). o.next < length o.frames) (sym c.self.view_is) c.requires) in
    (c.self.invariant.0, goes-on i.script.now i.places.now i.repeat i.rounds i.at c.self.invariant.1 left c.if-self.false)

pub returns-then-self-clause-next : goal.returns-then-self-clause-next
returns-then-self-clause-next c =
    let i = c.self.inside in
    let left = is-left i.script.now i.places.now i.repeat i.rounds i.at c.self.invariant.1 (subst (λ (o : Offering). o.next < length o.frames) (sym c.self.view_is) c.requires) in
    next-anew i.script.now i.places.now i.repeat i.rounds i.at c.self.invariant.1 left c.if-self.true ∙ ap (λ (o : Offering). o.next + 1) c.self.view_is
