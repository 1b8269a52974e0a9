-- The lemmas behind the clauses of `src/places.rt`, by name, for the proofs of other crates.
pub use Rattle.ring_model.proofs.shared.Places.{same_item, apart, next_place, lap, ahead, slice_index-writes, each_item-set, each_item-push, each_item-drop, each_item-same, slice_set-writes, slice_get-set_other}
