-- Which posting may follow an unfinished frame: its bytes may, and PAYLEN in each descriptor of the frame is the whole
-- frame's length, within the lawful range.
use Rattle.std.specs.Prelude.{◌≡◌, ℕ, ◌+◌, ◌≤◌, true, List, Some, length, slice_get, take}
use Rattle.limits.specs.declared.profile.TheConstants.{LEAST_FRAME, MOST_FRAME}
use Rattle.ring_model.specs.shared.Frames.{Bytes, Follows, join, unfinished}
use Rattle.ring_model.specs.transmit.Ring.{Posting, carried}

-- In a ring of `n` places, this posting may follow the unfinished frame `before`.
pub record MayFollow (n : ℕ) (before : List (Posting Bytes)) (p : Posting Bytes) : Type 0 where
  pub follows : Follows carried n before p.payload p.eop
  pub asks_at_end : p.rs ≡ true → p.eop ≡ true
  pub long_enough : LEAST_FRAME ≤ p.paylen
  pub short_enough : p.paylen ≤ MOST_FRAME
  pub same_frame : (k : ℕ) (q : Posting Bytes) → slice_get before k ≡ Some q → q.paylen ≡ p.paylen
  pub within : length (join carried before) + length p.payload ≤ p.paylen
  pub whole : p.eop ≡ true → length (join carried before) + length p.payload ≡ p.paylen

-- Each posting may follow the unfinished frame of the postings before it.
-- No worked row decides this, only `MayFollow`; the proofs of `chains_are_lawful` rely on it.
abbrev pub AllMayFollow : ℕ → List (Posting Bytes) → Type 0
AllMayFollow n ps = (k : ℕ) (p : Posting Bytes) → slice_get ps k ≡ Some p → MayFollow n (unfinished carried (take k ps)) p
