-- The valid requests of `from-capture` and `to-capture`.
use Rattle.std.specs.Prelude.{◌<◌, Bool, false}
use Rattle.limits.specs.declared.profile.TheConstants.{MOST_PAIRS, PORTS}
use Rattle.requests.specs.declared.conversion.CaptureRequest.{CaptureRequest}
use Rattle.requests.specs.declared.conversion.CaptureRequest.TheVariants.{FromCapture, ToCapture}

-- records may be left out of a capture
abbrev pub may_skip : CaptureRequest → Bool
may_skip (FromCapture port queue reading) = reading.skip
may_skip (ToCapture port) = false

-- the port and the queue exist
abbrev pub IsPlaced : CaptureRequest → Type 0
IsPlaced (FromCapture port queue reading) = (port < PORTS) × (queue < MOST_PAIRS)
IsPlaced (ToCapture port) = port < PORTS
