use Rattle.std.proofs.Common.{◌∙◌, ◌++◌, length, length-append, ap, arith}
use Rattle.ring_model.specs.shared.Frames.{Bytes}
use Rattle.controller.specs.Laid.{Laid, frames_from, behind}
use Rattle.controller.proofs.Laying.{frames-append, behind-append, ends-later}
use Rattle.controller.proofs.arena.Arena.append.Goals as goal

pub invariant_of-self : goal.invariant_of-self
invariant_of-self c =
    let longer = ap length (c.in-Ok.ensures.items) ∙ length-append c.self.inside.bytes.items c.args.bytes.now in
    ends-later 0 (length c.self.inside.bytes.items) _ c.self.inside.ends.items c.self.invariant (omega (arith, longer))

pub returns : goal.returns
returns c =
    let bytes = c.self.inside.bytes.items in let ends = c.self.inside.ends.items in
    let longer = ap length (c.in-Ok.ensures.items) ∙ length-append bytes c.args.bytes.now in
    record {
      frames = ap (λ (b : Bytes). frames_from 0 b ends) c.in-Ok.ensures.items ∙ (frames-append 0 (length bytes) bytes c.args.bytes.now ends (omega arith) c.self.invariant ∙ ap (λ (l : Laid). l.frames) c.self.view_is);
      begun = ap (λ (b : Bytes). behind 0 b ends) c.in-Ok.ensures.items ∙ (behind-append 0 (length bytes) bytes c.args.bytes.now ends (omega arith) c.self.invariant ∙ ap (λ (l : Laid). l.begun ++ c.args.bytes.now) c.self.view_is);
      room = omega (arith, longer, c.extend_from_slice.ensures.capacity, ap (λ (l : Laid). l.room) c.self.view_is);
      entries = ap (λ (l : Laid). l.entries) c.self.view_is;
    }
