use Rattle.std.proofs.Common.{◌∙◌, length, sym, ap}
use Rattle.controller.specs.Laid.{Laid}
use Rattle.controller.proofs.Laying.{length-frames}
use Rattle.controller.proofs.arena.Arena.len.Goals as goal

pub returns : goal.returns
returns c = ap length c.as_slice.ensures.value ∙ (sym (length-frames 0 c.self.inside.bytes.items c.self.inside.ends.items) ∙ ap (λ (l : Laid). length l.frames) c.self.view_is)
