use Rattle.std.proofs.Common.{length, ap, arith}
use Rattle.std.specs.Prelude.{sum_by}
use Rattle.controller.specs.Laid.{Laid}
use Rattle.controller.proofs.Laying.{length-frames, lengths-frames}
use Rattle.controller.proofs.arena.Arena.capacity.Goals as goal

pub returns : goal.returns
returns c =
    let bytes = c.self.inside.bytes.items in let ends = c.self.inside.ends.items in
    let count = length-frames 0 bytes ends in
    let all = lengths-frames 0 (length bytes) bytes ends (omega arith) c.self.invariant in
    record {
      entries = omega (arith, count, c.capacity.ensures, ap (λ (l : Laid). length l.frames) c.self.view_is, ap (λ (l : Laid). l.entries) c.self.view_is);
      room = omega (arith, all, c.capacity-2.ensures, ap (λ (l : Laid). sum_by length l.frames) c.self.view_is, ap (λ (l : Laid). length l.begun) c.self.view_is, ap (λ (l : Laid). l.room) c.self.view_is);
    }
