-- All postings of an unfinished frame give the same frame length.
use Rattle.std.specs.Prelude.{◌≡◌, ℕ, List, Some, slice_get}
use Rattle.tx_ring.specs.Records.{Posting}

abbrev pub AreOfFrame : ℕ → List Posting → Type 0
AreOfFrame paylen ps = (k : ℕ) (p : Posting) → slice_get ps k ≡ Some p → p.paylen ≡ paylen
