-- Worked rows of cutting: the lengths of a frame's pieces, and which of them ends it, for any bytes.
use Rattle.std.specs.Prelude.{◌≡◌, ℕ, Bool, true, false, List, [], ◌∷◌, map, length}
use Rattle.ring_model.specs.shared.Frames.{Bytes, Piece, Follows, cut, itself, join}

abbrev pub shape_of : Piece → ℕ × Bool
shape_of p = (length p.bytes, p.eop)

abbrev shapes : List Piece → List (ℕ × Bool)
shapes ps = map shape_of ps

-- A piece of `len` bytes that does not end its frame (`on`) or ends it (`end`).
abbrev on : ℕ → ℕ × Bool
on len = (len, false)

abbrev end : ℕ → ℕ × Bool
end len = (len, true)

pub record CutRows : Type 0 where
  pub no_bytes : (f : Bytes) → length f ≡ 0 → shapes (cut 1024 f) ≡ []
  pub one_byte : (f : Bytes) → length f ≡ 1 → shapes (cut 1024 f) ≡ end 1 ∷ []
  pub one_full : (f : Bytes) → length f ≡ 1024 → shapes (cut 1024 f) ≡ end 1024 ∷ []
  pub one_more : (f : Bytes) → length f ≡ 1025 → shapes (cut 1024 f) ≡ on 1024 ∷ end 1 ∷ []
  pub two_full : (f : Bytes) → length f ≡ 2048 → shapes (cut 1024 f) ≡ on 1024 ∷ end 1024 ∷ []
  pub three : (f : Bytes) → length f ≡ 2500 → shapes (cut 1024 f) ≡ on 1024 ∷ on 1024 ∷ end 452 ∷ []
  pub nine : (f : Bytes) → length f ≡ 9000 → shapes (cut 1024 f) ≡ on 1024 ∷ on 1024 ∷ on 1024 ∷ on 1024 ∷ on 1024 ∷ on 1024 ∷ on 1024 ∷ on 1024 ∷ end 808 ∷ []
  pub by_2048 : (f : Bytes) → length f ≡ 9000 → shapes (cut 2048 f) ≡ on 2048 ∷ on 2048 ∷ on 2048 ∷ on 2048 ∷ end 808 ∷ []
  pub fifteen : (f : Bytes) → length f ≡ 15000 → shapes (cut 1024 f)
      ≡ on 1024 ∷ on 1024 ∷ on 1024 ∷ on 1024 ∷ on 1024 ∷ on 1024 ∷ on 1024 ∷ on 1024 ∷ on 1024 ∷ on 1024 ∷ on 1024 ∷ on 1024 ∷ on 1024 ∷ on 1024 ∷ end 664 ∷ []

-- What may follow an unfinished frame of `count` pieces and `before` bytes, in a ring of `n`.
abbrev MayGoOn : ℕ → ℕ → ℕ → ℕ → Bool → Type 0
MayGoOn n count before len eop = (ps : List Piece) (f : Bytes) → length ps ≡ count → length (join itself ps) ≡ before → length f ≡ len → Follows itself n ps f eop

abbrev MayNotGoOn : ℕ → ℕ → ℕ → ℕ → Bool → Type 0
MayNotGoOn n count before len eop = (ps : List Piece) (f : Bytes) → length ps ≡ count → length (join itself ps) ≡ before → length f ≡ len → Follows itself n ps f eop → ⊥

-- The limits of frames, as plain numbers.
pub record FollowRows : Type 0 where
  pub shortest : MayGoOn 8 0 0 14 true
  pub too_short : MayNotGoOn 8 0 0 13 true
  pub begun : MayGoOn 8 0 0 1 false
  pub nothing : MayNotGoOn 8 0 0 0 false
  pub full_buffer : MayGoOn 8 0 0 2048 true
  pub quiesced_full : MayNotGoOn 8 0 0 2049 true
  pub fifteenth : MayGoOn 16 14 14336 664 true
  pub too_long : MayNotGoOn 16 14 14336 665 true
  pub sixteenth : MayNotGoOn 32 15 14000 1 true
  pub last_descriptor : MayGoOn 8 6 6000 1000 true
  pub no_descriptor : MayNotGoOn 8 7 7000 1000 true
