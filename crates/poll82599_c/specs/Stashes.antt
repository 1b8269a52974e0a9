-- The buffers of a stash.
use Rattle.std.specs.Prelude.{ℕ, List, IsPermutation}
use Rattle.std.specs.List.{range_with_len}

-- a stash of the buffers 0 to count - 1, each once
abbrev pub AreBuffers : ℕ → List ℕ → Type 0
AreBuffers count stash = IsPermutation (range_with_len 0 count) stash
