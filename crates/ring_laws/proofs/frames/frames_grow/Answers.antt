-- Each clause is a lemma of `ring_model`.
use Rattle.std.proofs.Common.{rules}
use Rattle.ring_model.proofs.shared.FrameLaws.{join-append, length-join-snoc, unfinished-append, unfinished-snoc, frames-append, frames-snoc, frames-beginning}
use Rattle.ring_model.proofs.shared.Following.{whole-unfinished, unfinished-whole}
use Rattle.ring_laws.proofs.frames.frames_grow.Goals as goal

pub returns : goal.returns
returns g c = search (rules, join-append, length-join-snoc, unfinished-append, unfinished-snoc, frames-append, frames-snoc, frames-beginning, whole-unfinished, unfinished-whole)
