-- Each clause is a lemma of `ring_model`.
use Rattle.std.proofs.Common.{rules}
use Rattle.ring_model.proofs.shared.Places.{each_item-set, each_item-push, each_item-drop, each_item-same, slice_set-writes, slice_get-set_other}
use Rattle.ring_laws.proofs.places.items_are_written.Goals as goal

pub returns : goal.returns
returns g c = search (rules, each_item-set, each_item-push, each_item-drop, each_item-same, slice_set-writes, slice_get-set_other)
