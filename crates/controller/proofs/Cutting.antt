-- A frame's pieces, one at a time: the first of what is left, and the others.
use Rattle.std.proofs.Common.{◌≡◌, ℕ, zero, suc, ◌+◌, ◌-◌, ◌*◌, ◌/◌, ◌%◌, ◌<◌, ◌≤◌, true, false, List, [], ◌∷◌, ◌++◌, map, length, take, drop, Some, sym, refl, ap, ◌∙◌, arith, suc-mul, zero-mul, length-append, length-drop}
use Rattle.std.specs.Prelude.{slice_get}
use Rattle.std.proofs.lemmas.List.{length-map}
use Rattle.std.proofs.lemmas.Nat.{div-mul-add, div-add-mod'}
use Rattle.std.proofs.Math.Nat.{lt-div-mul-add, div-lt_iff_lt-mul}
use Rattle.std.proofs.Math.Seq.{take-append_seam}
use Rattle.limits.specs.declared.profile.TheConstants.{BUFFER_BYTES, MOST_FRAME, MOST_SEGMENTS}
use Rattle.ring_model.specs.shared.Frames.{Bytes, Piece, pieces, piece_count, cut, HasFrameLength}
use Rattle.ring_model.specs.kept.CanCut.{CanCut}

-- one more piece than of what is left behind a full one
pub more_pieces : (b len : ℕ) → 0 < b → b < len → piece_count b len ≡ suc (piece_count b (len - b))
more_pieces b len pos h =
    let y = len - 1 in
    let split = div-add-mod' y b in
    let more = suc-mul (y / b) b in
    let below : y % b < b = omega arith in
    let whole : len + b - 1 ≡ suc (y / b) * b + y % b = omega arith in
    let left : len - b + b - 1 ≡ y = omega arith in
    ap (λ (x : ℕ). x / b) whole ∙ (div-mul-add (suc (y / b)) b (y % b) below ∙ ap (λ (x : ℕ). suc (x / b)) (sym left))

-- what fits into one buffer is one piece
pub one_piece : (b len : ℕ) → 0 < len → len ≤ b → piece_count b len ≡ 1
one_piece b len some few =
    let m : 1 * b ≡ b = omega arith in
    let whole : len + b - 1 ≡ 1 * b + (len - 1) = omega arith in
    ap (λ (x : ℕ). x / b) whole ∙ div-mul-add 1 b (len - 1) (omega arith)

cut_first : (b count : ℕ) (f : Bytes) → 0 < count → pieces b (suc count) f ≡ record { bytes = take b f; eop = false } ∷ pieces b count (drop b f)
cut_first b zero f some = absurd (omega arith)
cut_first b (suc k) f some = refl

pub length-pieces : (b count : ℕ) (f : Bytes) → length (pieces b count f) ≡ count
length-pieces b zero f = refl
length-pieces b (suc zero) f = refl
length-pieces b (suc (suc k)) f = ap suc (length-pieces b (suc k) (drop b f))

pub length-cut : (b : ℕ) (f : Bytes) → length (cut b f) ≡ piece_count b (length f)
length-cut b f = length-pieces b (piece_count b (length f)) f

-- what fits into one buffer is cut to itself
pub cut-last : (b : ℕ) (f : Bytes) → 0 < length f → length f ≤ b → cut b f ≡ record { bytes = f; eop = true } ∷ []
cut-last b f some few = ap (λ (k : ℕ). pieces b k f) (one_piece b (length f) some few)

-- some bytes need some piece
pub some_pieces : (b len : ℕ) → 0 < b → 0 < len → 0 < piece_count b len
some_pieces b len pos some = more_than_none (piece_count b len) refl
  where
    more_than_none : (count : ℕ) → piece_count b len ≡ count → 0 < count
    more_than_none zero e = let high : len + b - 1 < piece_count b len * b + b = lt-div-mul-add pos in let none : piece_count b len * b ≡ 0 = ap (λ (k : ℕ). k * b) e ∙ zero-mul b in absurd (omega arith)
    more_than_none (suc k) e = omega arith

-- what does not is cut to a full piece and those of the others
pub cut-more : (b : ℕ) (f : Bytes) → 0 < b → b < length f → cut b f ≡ record { bytes = take b f; eop = false } ∷ cut b (drop b f)
cut-more b f pos h =
    let left = length-drop b f in
    ap (λ (k : ℕ). pieces b k f) (more_pieces b (length f) pos h)
    ∙ (cut_first b (piece_count b (length f - b)) f (some_pieces b (length f - b) pos (omega arith))
    ∙ ap (λ (k : ℕ). record { bytes = take b f; eop = false } ∷ pieces b (piece_count b k) (drop b f)) (sym left))

-- a frame of lawful length can be cut to pieces of 1 KB or more
pub few_pieces : (b len : ℕ) → 1024 ≤ b → len ≤ MOST_FRAME → piece_count b len ≤ MOST_SEGMENTS
few_pieces b len least most =
    let few : len + b - 1 < 16 * b = omega arith in
    let below = (div-lt_iff_lt-mul {k = b} {x = len + b - 1} {y = 16} (omega arith)).1 few in omega arith

pub can_cut : (n b : ℕ) (f : Bytes) → 1024 ≤ b → b ≤ BUFFER_BYTES → HasFrameLength f → piece_count b (length f) < n → CanCut n b (length f)
can_cut n b f least most len fits = let low = len.0 in let high = len.1 in record {
  some_room = omega arith;
  room = most;
  least = low;
  most = high;
  segments = few_pieces b (length f) least high;
  descriptors = fits;
}

module _ {X : Type 0} (carries : X → Piece) where
  -- Where these carry the first pieces of a frame: how many they are, and which piece comes next
  pub record Carried (ps : List Piece) (xs : List X) (p : Piece) : Type 0 where
    pub count : length xs < length ps
    pub front : map carries xs ≡ take (length xs) ps
    pub next : slice_get ps (length xs) ≡ Some p

  pub carried_front : (ps : List Piece) (xs : List X) (p : Piece) (others : List Piece) → map carries xs ++ p ∷ others ≡ ps → Carried ps xs p
  carried_front ps xs p others e =
      let same = length-map xs carries in
      let all = length-append (map carries xs) (p ∷ others) in
      let whole = ap length e in record {
        count = omega arith;
        front = sym (ap (λ (k : ℕ). take k (map carries xs ++ p ∷ others)) (sym same) ∙ take-append_seam (map carries xs) (p ∷ others)) ∙ ap (λ (l : List Piece). take (length xs) l) e;
        next = ap (λ (l : List Piece). slice_get l (length xs)) (sym e) ∙ (ap (λ (k : ℕ). slice_get (map carries xs ++ p ∷ others) k) (sym same) ∙ at_seam (map carries xs) p others);
      }
    where
      at_seam : (xs : List Piece) (p : Piece) (others : List Piece) → slice_get (xs ++ p ∷ others) (length xs) ≡ Some p
      at_seam [] p others = refl
      at_seam (x ∷ xs) p others = at_seam xs p others
