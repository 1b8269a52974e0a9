use Rattle.std.proofs.Common.{arith}
use Rattle.counters.proofs.Registering.{registers_tell}
use Rattle.counters.proofs.registers.RegisterSide.tell.Goals as goal

pub split_seat-seat-requires : goal.split_seat-seat-requires
split_seat-seat-requires c =
    let i = c.self.invariant in let some = i.some in let all = i.registers in
    rw (c.deref.ensures) (i.own, omega (arith, some, all), registers_tell _ _ _)
