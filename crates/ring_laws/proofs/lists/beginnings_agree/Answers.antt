-- Each clause is a lemma of `ring_model`.
use Rattle.std.proofs.Common.{rules}
use Rattle.ring_model.proofs.shared.Beginnings.{slice_get-front, beginning_at, slice_get-snoc, beginning-trans, next_number, number_at}
use Rattle.ring_model.proofs.transmit.Reached.{beginning_whole}
use Rattle.ring_laws.proofs.lists.beginnings_agree.Goals as goal

pub returns : goal.returns
returns g c = search (rules, slice_get-front, beginning_at, slice_get-snoc, beginning-trans, beginning_whole, next_number, number_at)
