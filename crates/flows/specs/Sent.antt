-- The frames that a flow sent, kept or only counted.
use Rattle.std.specs.Prelude.{◌≡◌, ℕ, ◌-◌, ◌^◌, Bool, true, false, List, [], ◌++◌, length, min, sum_by}
use Rattle.ring_model.specs.shared.Frames.{Bytes}
use Rattle.flows.specs.declared.output.Output.{Output}

-- A number, or the greatest one that a count can show.
abbrev pub shown : ℕ → ℕ
shown n = min n (2 ^ 64 - 1)

-- These are all frames that were sent: those that were removed from the wire, which were counted, and those on it. None is
-- removed if they are kept.
pub record Holds (o : Output) (all : List Bytes) : Type 0 where
  pub removed : List Bytes
  pub are : all ≡ removed ++ o.wire
  pub kept : o.keep ≡ true → removed ≡ []
  pub frames : o.frames ≡ shown (length removed)
  pub bytes : o.bytes ≡ shown (sum_by length removed)

-- What is returned of these frames, which are all that were sent: the wire, if they are kept, and their numbers.
pub record HasSent (keeps : Bool) (all wire : List Bytes) (sent sent_bytes : ℕ) : Type 0 where
  pub kept : keeps ≡ true → wire ≡ all
  pub unkept : keeps ≡ false → wire ≡ []
  pub frames : sent ≡ shown (length all)
  pub bytes : sent_bytes ≡ shown (sum_by length all)
