-- The lemmas behind the clauses of `src/rings.rt`, by name, for the proofs of other crates.
pub use Rattle.ring_model.proofs.receive.Reached.{rx_kept, rx_lawful, rx_ordered, rx_concluded, rx_later-all}
pub use Rattle.ring_model.proofs.receive.Stepping.{rx_kept-opening}
pub use Rattle.ring_model.proofs.receive.Quiesced.{quiesced-ended, said-stays}
pub use Rattle.ring_model.proofs.transmit.Reached.{tx_kept, tx_lawful, tx_ordered, tx_concluded, tx_later-all}
pub use Rattle.ring_model.proofs.transmit.Stepping.{first_report-above, seen_sent}
