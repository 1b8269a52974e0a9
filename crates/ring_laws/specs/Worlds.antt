-- The lemma behind the clause `reached` of `queues_stand_apart` in `ring_model`, by name.
pub use Rattle.ring_model.proofs.Apart.{reached_world}
