-- The numbers of refusals, and their lines.
use Rattle.std.specs.Prelude.{ℕ, Option, Some, None}
use Rattle.refusals.specs.declared.errors.ScriptError.{ScriptError}
use Rattle.refusals.specs.declared.errors.ScriptError.TheVariants.{Fields, Port, Queue, Bytes, FrameLength, TooMany, Memory}

-- the refusal's number
abbrev pub refusal_number : ScriptError → ℕ
refusal_number (Fields line) = 71
refusal_number (Port line) = 72
refusal_number (Queue line) = 73
refusal_number (Bytes line) = 74
refusal_number (FrameLength line) = 75
refusal_number (TooMany line) = 76
refusal_number Memory = 77

-- the refused line
abbrev pub line_of : ScriptError → Option ℕ
line_of (Fields line) = Some line
line_of (Port line) = Some line
line_of (Queue line) = Some line
line_of (Bytes line) = Some line
line_of (FrameLength line) = Some line
line_of (TooMany line) = Some line
line_of Memory = None
