-- The numbers of refusals, and their records.
use Rattle.std.specs.Prelude.{ℕ, Option, Some, None}
use Rattle.refusals.specs.declared.errors.CaptureError.{CaptureError}
use Rattle.refusals.specs.declared.errors.CaptureError.TheVariants.{NotCapture, LinkType, CutShort, CapturedShort, FrameLength, TooMany, Memory}

-- the refusal's number
abbrev pub refusal_number : CaptureError → ℕ
refusal_number NotCapture = 91
refusal_number LinkType = 92
refusal_number (CutShort number) = 93
refusal_number (CapturedShort number) = 94
refusal_number (FrameLength number) = 95
refusal_number (TooMany number) = 96
refusal_number Memory = 97

-- the refused record
abbrev pub record_of : CaptureError → Option ℕ
record_of NotCapture = None
record_of LinkType = None
record_of (CutShort number) = Some number
record_of (CapturedShort number) = Some number
record_of (FrameLength number) = Some number
record_of (TooMany number) = Some number
record_of Memory = None
