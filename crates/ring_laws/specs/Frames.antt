-- The lemmas behind the clauses of `src/frames.rt`, by name, for the proofs of other crates.
pub use Rattle.ring_model.proofs.shared.FrameLaws.{join-append, length-join-snoc, unfinished-append, unfinished-snoc, frames-append, frames-snoc, frames-beginning, AllFollow-nil, AllFollow-snoc, follows_next}
pub use Rattle.ring_model.proofs.shared.Following.{whole-unfinished, unfinished-whole, follows-cut}
pub use Rattle.ring_model.proofs.transmit.Postings.{AllMayFollow-nil, AllMayFollow-snoc, may_follow_next}
