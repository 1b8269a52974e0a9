use Rattle.std.specs.Prelude.{ℕ}
use Rattle.refusals.specs.declared.errors.PoolError.{PoolError}
use Rattle.refusals.specs.declared.errors.PoolError.TheVariants.{Memory, Empty, StashFull, Count}

-- the refusal's number
abbrev pub refusal_number : PoolError → ℕ
refusal_number Memory = 31
refusal_number Empty = 32
refusal_number StashFull = 33
refusal_number Count = 34
