-- The layout of a wire's frames in one block of bytes: one after another, with the end of each.
use Rattle.std.specs.Prelude.{ℕ, ◌-◌, ◌≤◌, List, [], ◌∷◌, take, drop}
use Rattle.ring_model.specs.shared.Frames.{Bytes}

-- The frames, the bytes of an unfinished frame, and the room left for bytes and entries.
pub record Laid : Type 0 where
  pub frames : List Bytes
  pub begun : Bytes
  pub room : ℕ
  pub entries : ℕ

-- The frames that end at these places, in bytes that begin at `start`; and the bytes after them.
abbrev pub frames_from : ℕ → Bytes → List ℕ → List Bytes
frames_from start bytes [] = []
frames_from start bytes (e ∷ es) = take (e - start) bytes ∷ frames_from e (drop (e - start) bytes) es

abbrev pub behind : ℕ → Bytes → List ℕ → Bytes
behind start bytes [] = bytes
behind start bytes (e ∷ es) = behind e (drop (e - start) bytes) es

-- Each end is at or after the one before it, and within the bytes.
abbrev pub AreEnds : ℕ → ℕ → List ℕ → Type 0
AreEnds start past [] = start ≤ past
AreEnds start past (e ∷ es) = (start ≤ e) × AreEnds e past es
