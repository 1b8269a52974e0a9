-- A record of a capture, independent of its place in memory.
use Rattle.std.specs.Prelude.{ℕ, ◌<◌, ◌≤◌, ◌^◌, List, length}
use Rattle.limits.specs.declared.profile.TheConstants.{LEAST_FRAME, MOST_FRAME}

-- A record: the time of its capture, the frame's length on the wire and the captured bytes.
pub record Record : Type 0 where
  pub seconds : ℕ
  pub fraction : ℕ
  pub wire_len : ℕ
  pub frame : List ℕ

abbrev pub record_of : ℕ → ℕ → ℕ → List ℕ → Record
record_of seconds fraction wire_len frame =
    record { seconds = seconds; fraction = fraction; wire_len = wire_len; frame = frame }

-- A record that is read and written.
pub record InRange (r : Record) : Type 0 where
  pub seconds : r.seconds < 2 ^ 32
  pub fraction : r.fraction < 2 ^ 32
  pub whole : r.wire_len ≤ length r.frame
  pub least : LEAST_FRAME ≤ length r.frame
  pub greatest : length r.frame ≤ MOST_FRAME
