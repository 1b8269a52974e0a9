use Rattle.std.specs.Prelude.{ℕ}
use Rattle.refusals.specs.declared.errors.RingError.{RingError}
use Rattle.refusals.specs.declared.errors.RingError.TheVariants.{RingLength, Memory}

-- the refusal's number
abbrev pub refusal_number : RingError → ℕ
refusal_number RingLength = 21
refusal_number Memory = 22
