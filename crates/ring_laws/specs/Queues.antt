-- The lemmas behind the clauses of `src/queues.rt`, by name, for the proofs of other crates.
pub use Rattle.ring_model.proofs.shared.Stepping.{control_fits_of, returned_completed, held_below, fetch_facts, answered_has_ended, answered_idle, answered_unheld}
pub use Rattle.ring_model.proofs.shared.Wanted.{fetch_here, fetch_rest}
