use Rattle.std.proofs.Common.{ap, arith}
use Rattle.counters.proofs.Registering.{registers_load}
use Rattle.counters.proofs.registers.RegisterSide.load.Goals as goal

pub load-requires : goal.load-requires
load-requires c =
    let i = c.self.invariant in let place = c.requires.place in
    let view = ap (λ v. v.cell.words) c.self.view_is in let own = ap (λ t. t.words) i.own in
    rw (c.deref.ensures) (i.own, omega (arith, place, view, own), registers_load _ _ _ _ _)
