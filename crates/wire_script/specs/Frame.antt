-- A frame of the wire, independent of its place in memory.
use Rattle.std.specs.Prelude.{ℕ, ◌<◌, ◌≤◌, List, length, All}
use Rattle.limits.specs.declared.profile.TheConstants.{LEAST_FRAME, MOST_FRAME, MOST_PAIRS, PORTS}

-- A frame, with the port and queue at which it comes in or goes out.
pub record Frame : Type 0 where
  pub port : ℕ
  pub queue : ℕ
  pub bytes : List ℕ

abbrev pub frame_of : ℕ → ℕ → List ℕ → Frame
frame_of port queue bytes = record { port = port; queue = queue; bytes = bytes }

-- A frame that a wire may have.
pub record InRange (f : Frame) : Type 0 where
  pub port : f.port < PORTS
  pub queue : f.queue < MOST_PAIRS
  pub least : LEAST_FRAME ≤ length f.bytes
  pub greatest : length f.bytes ≤ MOST_FRAME
  pub bytes : All (λ b. b < 256) f.bytes
