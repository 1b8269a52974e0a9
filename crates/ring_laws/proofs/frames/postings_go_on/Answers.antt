-- Each clause is a lemma of `ring_model`.
use Rattle.std.proofs.Common.{rules}
use Rattle.ring_model.proofs.transmit.Postings.{AllMayFollow-nil, AllMayFollow-snoc, may_follow_next}
use Rattle.ring_laws.proofs.frames.postings_go_on.Goals as goal

pub returns : goal.returns
returns c = search (rules, AllMayFollow-nil, AllMayFollow-snoc, may_follow_next)
