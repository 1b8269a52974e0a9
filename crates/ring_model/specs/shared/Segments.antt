-- The contents of one descriptor, in both directions.
use Rattle.std.specs.Prelude.{ℕ, Bool}
use Rattle.ring_model.specs.shared.Frames.{Bytes, Piece}

-- The buffer's number, its payload, and whether it ends its frame.
pub record Segment (Payload : Type 0) : Type 0 where
  pub number : ℕ
  pub payload : Payload
  pub eop : Bool

-- The bytes and EOP of a segment, without its buffer.
abbrev pub piece_of : Segment Bytes → Piece
piece_of s = record { bytes = s.payload; eop = s.eop }

abbrev pub ends_segment : {Payload : Type 0} → Segment Payload → Bool
ends_segment s = s.eop

abbrev pub number_of_segment : {Payload : Type 0} → Segment Payload → ℕ
number_of_segment s = s.number
