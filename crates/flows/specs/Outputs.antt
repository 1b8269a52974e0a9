-- The outputs that a flow may have.
use Rattle.std.specs.Prelude.{◌≡◌, ℕ, ◌⊎◌, nat_lt, not, List, [], ◌∷◌, length, map}
use Rattle.std.specs.List.{filter, flat_map}
use Rattle.ring_model.specs.shared.Frames.{Bytes, cut, frames, piece_count}
use Rattle.ring_model.specs.shared.Segments.{Segment, piece_of}
use Rattle.forwarding.specs.Touching.{touch}

-- The first list is the second with some members left out.
abbrev pub Chosen : {X : Type 0} → List X → List X → Type 0
Chosen [] ys = Unit {0}
Chosen (x ∷ xs) [] = ⊥
Chosen (x ∷ xs) (y ∷ ys) = ((x ≡ y) × Chosen xs ys) ⊎ Chosen (x ∷ xs) ys

-- The frames that are not oversize: in buffers filled to `b` bytes, they need fewer than `n` descriptors.
abbrev pub fitting : ℕ → ℕ → List Bytes → List Bytes
fitting n b fs = filter (λ f. nat_lt (piece_count b (length f)) n) fs

-- The oversize frames.
abbrev pub oversized : ℕ → ℕ → List Bytes → List Bytes
oversized n b fs = filter (λ f. not (nat_lt (piece_count b (length f)) n)) fs

-- The segments are those of their frames, each cut into pieces of `b` bytes and a rest, and no frame is unfinished.
abbrev pub AreCut : ℕ → List (Segment Bytes) → Type 0
AreCut b segments = map piece_of segments ≡ flat_map (cut b) (frames piece_of segments)

-- The output frames are touched input frames (byte 1 is increased by 1, modulo 256), in order, with some left out.
abbrev pub IsLawfulOutput : List Bytes → List Bytes → Type 0
IsLawfulOutput came went = Chosen went (map touch came)

-- Exactly the oversize frames are left out.
abbrev pub IsFullOutput : ℕ → ℕ → List Bytes → List Bytes → Type 0
IsFullOutput n b came went = went ≡ map touch (fitting n b came)
