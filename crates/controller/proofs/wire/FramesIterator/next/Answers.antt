use Rattle.std.proofs.Common.{◌+◌, ◌∙◌, sym, refl}
use Rattle.controller.proofs.Laying.{drop_next}
use Rattle.controller.proofs.wire.FramesIterator.next.Goals as goal

pub returns-clause-steps : goal.returns-clause-steps
returns-clause-steps c = sym c.self.view_is ∙ drop_next _ c.self.inside.next (c.self.inside.next + 1) _ refl c.frame-frame.ensures
