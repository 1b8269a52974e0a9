use Rattle.std.specs.Prelude.{ℕ}
use Rattle.refusals.specs.declared.errors.DescError.{DescError}
use Rattle.refusals.specs.declared.errors.DescError.TheVariants.{Length, Reserved, Kind, Size}

-- the refusal's number
abbrev pub refusal_number : DescError → ℕ
refusal_number Length = 1
refusal_number Reserved = 2
refusal_number Kind = 3
refusal_number Size = 4
