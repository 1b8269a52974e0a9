use Rattle.std.proofs.Common.{◌∙◌, ap, arith, slice_index}
use Rattle.counters.proofs.Registering.{registers_store}
use Rattle.counters.proofs.registers.RegisterSide.store.Goals as goal

pub store-requires : goal.store-requires
store-requires c =
    let i = c.self.invariant in let r = c.requires in let place = r.place in let above = r.none_falls in
    let view = ap (λ v. v.cell.words) c.self.view_is in let own = ap (λ t. t.words) i.own in
    let last = ap (λ v. slice_index v.last c.args.at) c.self.view_is in
    rw (c.deref.ensures) (i.own, omega (arith, place, view, own), registers_store _ _ _ _ _ _ (ap (λ v. v.writes) c.self.view_is ∙ r.writes) (omega (arith, last, above)))
