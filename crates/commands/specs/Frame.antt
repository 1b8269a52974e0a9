-- The frame of an argument of hex digits.
use Rattle.std.specs.Prelude.{ℕ, ◌≤◌, ◌&&◌, nat_le, if◌then◌else◌, List, length, Result, Ok, Err}
use Rattle.limits.specs.declared.profile.TheConstants.{LEAST_FRAME}
use Rattle.commands.specs.declared.passing.TheConstants.{MOST_PASSED}
use Rattle.requests.specs.declared.refusal.Refusal.{Refusal}
use Rattle.requests.specs.declared.refusal.Refusal.TheVariants.{FrameLength}
use Rattle.commands.specs.Digits.{bytes_in}

-- at least an Ethernet header, and at most what the free buffers of a ring of 8 hold
abbrev pub IsFrameLength : ℕ → Type 0
IsFrameLength len = (LEAST_FRAME ≤ len) × (len ≤ MOST_PASSED)

-- the bytes, if their number is a frame's length
abbrev pub framed : List ℕ → Result (List ℕ) Refusal
framed bytes = if nat_le LEAST_FRAME (length bytes) && nat_le (length bytes) MOST_PASSED then Ok bytes else Err FrameLength

-- the frame of pairs of digits of either case, or its refusal; memory is left out
abbrev pub frame_in : List ℕ → Result (List ℕ) Refusal
frame_in digits = read (bytes_in digits)
  where
    read : Result (List ℕ) Refusal → Result (List ℕ) Refusal
    read (Ok bytes) = framed bytes
    read (Err refusal) = Err refusal
