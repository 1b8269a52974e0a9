-- The number of bytes to which buffers are filled.
use Rattle.std.specs.Prelude.{◌≡◌, ℕ, ◌⊎◌}

-- 1 KB or 2 KB.
abbrev pub IsFillSize : ℕ → Type 0
IsFillSize bsize = (bsize ≡ 1024) ⊎ (bsize ≡ 2048)
