use Rattle.std.specs.Prelude.{ℕ}
use Rattle.refusals.specs.declared.errors.CtlError.{CtlError}
use Rattle.refusals.specs.declared.errors.CtlError.TheVariants.{FrameLength, Memory}

-- the refusal's number
abbrev pub refusal_number : CtlError → ℕ
refusal_number FrameLength = 41
refusal_number Memory = 42
