-- Each clause is a lemma of `ring_model`.
use Rattle.std.proofs.Common.{rules}
use Rattle.ring_model.proofs.shared.FrameLaws.{AllFollow-nil, AllFollow-snoc, follows_next}
use Rattle.ring_model.proofs.shared.Following.{follows-cut}
use Rattle.ring_laws.proofs.frames.what_follows_goes_on.Goals as goal

pub returns : goal.returns
returns g c = search (rules, AllFollow-nil, AllFollow-snoc, follows_next, follows-cut)
