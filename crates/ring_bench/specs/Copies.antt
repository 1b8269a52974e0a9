-- One frame, passed again and again, each time in one buffer.
use Rattle.std.specs.Prelude.{◌≡◌, ℕ, ◌≤◌, true, List, All}
use Rattle.limits.specs.declared.profile.TheConstants.{BUFFER_BYTES, LEAST_FRAME}
use Rattle.ring_model.specs.shared.Frames.{Bytes, Piece}

-- at least an Ethernet header, and at most a full buffer
abbrev pub IsFrameLength : ℕ → Type 0
IsFrameLength len = (LEAST_FRAME ≤ len) × (len ≤ BUFFER_BYTES)

-- the piece is the whole frame
pub record IsWhole (frame : Bytes) (p : Piece) : Type 0 where
  pub bytes : p.bytes ≡ frame
  pub last : p.eop ≡ true

-- each of them carries the whole frame
abbrev pub AllWhole : {X : Type 0} → (X → Piece) → Bytes → List X → Type 0
AllWhole carries frame xs = All (λ x. IsWhole frame (carries x)) xs
