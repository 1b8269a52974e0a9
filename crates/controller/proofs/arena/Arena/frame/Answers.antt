use Rattle.std.proofs.Common.{length, ap, arith}
use Rattle.controller.specs.Laid.{Laid}
use Rattle.controller.proofs.Laying.{length-frames}
use Rattle.controller.proofs.arena.Arena.frame.Goals as goal

pub bounds-start-requires-clause-there : goal.bounds-start-requires-clause-there
bounds-start-requires-clause-there c =
    let ends = ap length c.as_slice-2.ensures.value in
    let count = length-frames 0 c.self.inside.bytes.items c.self.inside.ends.items in
    let same = ap (λ (l : Laid). length l.frames) c.self.view_is in
    omega (arith, ends, count, same, c.requires)
