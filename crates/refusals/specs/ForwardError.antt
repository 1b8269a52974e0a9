use Rattle.std.specs.Prelude.{ℕ}
use Rattle.refusals.specs.declared.errors.ForwardError.{ForwardError}
use Rattle.refusals.specs.declared.errors.ForwardError.TheVariants.{Memory, Gate, Thread, Config}

-- the refusal's number
abbrev pub refusal_number : ForwardError → ℕ
refusal_number Memory = 61
refusal_number Gate = 62
refusal_number Thread = 63
refusal_number Config = 64
