-- The lemmas behind the clauses of `src/states.rt`, by name, for the proofs of other crates.
pub use Rattle.ring_model.proofs.shared.ControlSteps.{new_open, on_open, open_unanswered, live_unanswered, stopped_full, stopped_answered, cleared_emptied, tailed_emptied, emptied_answered, answered_closed, learned_open, learned_unanswered, serving_unended, on_serving, serving_unanswered, control_steps-enable, control_steps-disable}
