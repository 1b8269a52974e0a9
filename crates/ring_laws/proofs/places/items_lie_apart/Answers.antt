-- Each clause is a lemma of `ring_model`.
use Rattle.std.proofs.Common.{rules}
use Rattle.ring_model.proofs.shared.Places.{same_item, apart, next_place, lap, ahead, slice_index-writes}
use Rattle.ring_laws.proofs.places.items_lie_apart.Goals as goal

pub returns : goal.returns
returns c = search (rules, same_item, apart, next_place, lap, ahead, slice_index-writes)
