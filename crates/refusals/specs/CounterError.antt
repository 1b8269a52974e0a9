use Rattle.std.specs.Prelude.{ℕ}
use Rattle.refusals.specs.declared.errors.CounterError.{CounterError}
use Rattle.refusals.specs.declared.errors.CounterError.TheVariants.{Memory}

-- the refusal's number
abbrev pub refusal_number : CounterError → ℕ
refusal_number Memory = 61
