-- The lemmas behind the clauses of `src/schedules.rt`, by name, for the proofs of other crates.
pub use Rattle.ring_model.proofs.shared.Reaching.{after-append, next-happens, reached-opening, reached-more, reached-changed}
