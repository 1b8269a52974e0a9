-- The frames of a capture's records.
use Rattle.std.specs.Prelude.{ℕ, List, map}
use Rattle.capture.specs.Record.{Record}
use Rattle.wire_script.specs.Frame.{Frame, frame_of}

-- All of them at this port and queue.
abbrev pub frames_at : ℕ → ℕ → List Record → List Frame
frames_at port queue records = map (λ r. frame_of port queue r.frame) records
