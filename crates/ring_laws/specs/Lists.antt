-- The lemmas behind the clauses of `src/lists.rt`, by name, for the proofs of other crates.
pub use Rattle.ring_model.proofs.shared.Beginnings.{slice_get-front, beginning_at, slice_get-snoc, beginning-trans, next_number, number_at}
pub use Rattle.ring_model.proofs.transmit.Reached.{beginning_whole}
