-- The records of a port's frames.
use Rattle.std.specs.Prelude.{ℕ, ◌+◌, ◌/◌, ◌%◌, ◌==◌, List, [], ◌∷◌, length}
use Rattle.std.specs.List.{filter}
use Rattle.capture.specs.Record.{Record, record_of}
use Rattle.wire_script.specs.Frame.{Frame}

-- A frame at `micros` microseconds.
abbrev pub record_at : ℕ → Frame → Record
record_at micros frame = record_of (micros / 1000000) (micros % 1000000) (length frame.bytes) frame.bytes

-- The first frame at `micros` microseconds, and each further one a microsecond after the one before.
abbrev pub records_from : ℕ → List Frame → List Record
records_from micros [] = []
records_from micros (frame ∷ frames) = record_at micros frame ∷ records_from (micros + 1) frames

-- The frames of a port.
abbrev pub frames_of_port : ℕ → List Frame → List Frame
frames_of_port port frames = filter (λ f. f.port == port) frames

-- The records of a port's frames.
abbrev pub records_of_port : ℕ → List Frame → List Record
records_of_port port frames = records_from 0 (frames_of_port port frames)
