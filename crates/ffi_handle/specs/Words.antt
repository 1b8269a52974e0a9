-- Words of C as flags.
use Rattle.std.specs.Prelude.{ℕ, zero, suc, Bool, true, false}

-- any word but 0 means yes
abbrev pub is_set : ℕ → Bool
is_set zero = false
is_set (suc n) = true
