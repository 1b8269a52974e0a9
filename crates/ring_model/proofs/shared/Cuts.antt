-- A frame cut into pieces: how long each is, and that put together, stored or posted they are the frame again.
use Rattle.std.proofs.Common.{◌≡◌, ℕ, zero, suc, ◌+◌, ◌-◌, ◌*◌, ◌/◌, ◌<◌, ◌≤◌, Bool, true, false, List, [], ◌∷◌, ◌++◌, map, length, take, drop, min, Some, refl, ap, ◌∙◌, subst, sym, arith, if◌then◌else◌, append_assoc, append-nil, take-append-drop, zero-mul, suc-mul, length-take, length-drop, div-mul-le_self}
use Rattle.std.specs.Prelude.{slice_get}
use Rattle.std.proofs.lemmas.Option.{none-some, same_Some}
use Rattle.std.proofs.Math.Nat.{lt-div-mul-add}
use Rattle.ring_model.specs.shared.Frames.{Bytes, Piece, pieces, piece_count, cut, itself, join, unfinished_from, unfinished, chains_from, frames, IsCutBy}
use Rattle.ring_model.proofs.shared.Beginnings.{same_head, same_tail}
use Rattle.ring_model.proofs.shared.FrameLaws.{join-append}

-- what goes no time into a number is more than that number
none_fits : (a b : ℕ) → 0 < b → a / b ≡ 0 → a < b
none_fits a b pos e = let h : a < a / b * b + b = lt-div-mul-add pos in let z : a / b * b ≡ 0 = ap (λ (q : ℕ). q * b) e ∙ zero-mul b in omega arith

-- only a frame with no bytes has no pieces
no_bytes : (b : ℕ) (f : Bytes) → 0 < b → piece_count b (length f) ≡ zero → [] ≡ f
no_bytes b [] pos e = refl
no_bytes b (x ∷ f) pos e = let h = none_fits (length (x ∷ f) + b - 1) b pos e in absurd (omega arith)

-- one piece or more, whatever its bytes, are the frame again
join-pieces : (b k : ℕ) (f : Bytes) → join itself (pieces b (suc k) f) ≡ f
join-pieces b zero f = append-nil f
join-pieces b (suc k) f = ap (λ (l : Bytes). take b f ++ l) (join-pieces b k (drop b f)) ∙ take-append-drop b f

joined : (b : ℕ) (f : Bytes) (count : ℕ) → 0 < b → piece_count b (length f) ≡ count → join itself (pieces b count f) ≡ f
joined b f zero pos e = no_bytes b f pos e
joined b f (suc k) pos e = join-pieces b k f

pub join-cut : (b : ℕ) (f : Bytes) → 0 < b → join itself (cut b f) ≡ f
join-cut b f pos = joined b f (piece_count b (length f)) pos refl

-- k + 1 pieces of b bytes are needed: k are too few, and k + 1 enough
pub record Needs (b k len : ℕ) : Type 0 where
  pub more : k * b < len
  pub enough : len ≤ k * b + b

pub needs : (b len k : ℕ) → 0 < b → 0 < len → piece_count b len ≡ suc k → Needs b k len
needs b len k pos some e =
    let above : len + b - 1 < piece_count b len * b + b = lt-div-mul-add pos in let below : piece_count b len * b ≤ len + b - 1 = div-mul-le_self (len + b - 1) b in
    let high : len + b - 1 < suc k * b + b = rw (sym e) above in let low : suc k * b ≤ len + b - 1 = rw (sym e) below in let m = suc-mul k b in
    record { more = omega arith; enough = omega arith }

pub shortest : (a b : ℕ) → a ≤ b → min a b ≡ a
shortest a b h = omega arith

-- the piece k of so many
record PieceAt (b count k : ℕ) (p : Piece) : Type 0 where
  full : k + 1 < count → length p.bytes ≡ b
  goes_on : k + 1 < count → p.eop ≡ false
  some_left : 0 < length p.bytes
  few_left : length p.bytes ≤ b
  ends : k + 1 ≡ count → p.eop ≡ true

further : (b count k : ℕ) (p : Piece) → PieceAt b count k p → PieceAt b (suc count) (suc k) p
further b count k p a = record { full = λ h. a.full (omega arith); goes_on = λ h. a.goes_on (omega arith); some_left = a.some_left; few_left = a.few_left; ends = λ h. a.ends (omega arith) }

last_piece : (b : ℕ) (f : Bytes) → Needs b 0 (length f) → PieceAt b 1 0 (record { bytes = f; eop = true })
last_piece b f l = let a = l.more in let c = l.enough in let z = zero-mul b in record {
  full = λ h. absurd (omega arith);
  goes_on = λ h. absurd (omega arith);
  some_left = omega arith;
  few_left = omega arith;
  ends = λ h. refl;
}

full_piece : (b k : ℕ) (f : Bytes) → 0 < b → Needs b (suc k) (length f) → PieceAt b (suc (suc k)) 0 (record { bytes = take b f; eop = false })
full_piece b k f pos l = let a = l.more in let m = suc-mul k b in let whole : length (take b f) ≡ b = length-take b f ∙ shortest b (length f) (omega arith) in record {
  full = λ h. whole;
  goes_on = λ h. refl;
  some_left = omega arith;
  few_left = omega arith;
  ends = λ h. absurd (omega arith);
}

pub one_less : (b k : ℕ) (f : Bytes) → Needs b (suc k) (length f) → Needs b k (length (drop b f))
one_less b k f l = let a = l.more in let c = l.enough in let m = suc-mul k b in let e = length-drop b f in record { more = omega arith; enough = omega arith }

pieces_at : (b k : ℕ) (f : Bytes) → 0 < b → Needs b k (length f) → (j : ℕ) (p : Piece) → slice_get (pieces b (suc k) f) j ≡ Some p → PieceAt b (suc k) j p
pieces_at b zero f pos l zero p e = subst (λ (q : Piece). PieceAt b 1 0 q) (same_Some (record { bytes = f; eop = true }) p e) (last_piece b f l)
pieces_at b zero f pos l (suc j) p e = absurd (none-some p e)
pieces_at b (suc k) f pos l zero p e = subst (λ (q : Piece). PieceAt b (suc (suc k)) 0 q) (same_Some (record { bytes = take b f; eop = false }) p e) (full_piece b k f pos l)
pieces_at b (suc k) f pos l (suc j) p e = further b (suc k) j p (pieces_at b k (drop b f) pos (one_less b k f l) j p e)

length-pieces : (b k : ℕ) (f : Bytes) → length (pieces b (suc k) f) ≡ suc k
length-pieces b zero f = refl
length-pieces b (suc k) f = ap suc (length-pieces b k (drop b f))

cut_counted : (b count : ℕ) (f : Bytes) → 0 < b → 0 < length f → piece_count b (length f) ≡ count → IsCutBy b (pieces b count f)
cut_counted b zero f pos some e = let h : 0 ≡ length f = ap length (no_bytes b f pos e) in absurd (omega arith)
cut_counted b (suc k) f pos some e = let l = needs b (length f) k pos some e in let c = length-pieces b k f in record {
  full = λ j p g h. let a = pieces_at b k f pos l j p g in a.full (omega arith);
  goes_on = λ j p g h. let a = pieces_at b k f pos l j p g in a.goes_on (omega arith);
  some_left = λ j p g. let a = pieces_at b k f pos l j p g in a.some_left;
  few_left = λ j p g. let a = pieces_at b k f pos l j p g in a.few_left;
  ends = λ j p g h. let a = pieces_at b k f pos l j p g in a.ends (omega arith);
}

-- each piece but the last is full, and the last alone ends the frame
pub cut_by : (b : ℕ) (f : Bytes) → 0 < b → 0 < length f → IsCutBy b (cut b f)
cut_by b f pos some = cut_counted b (piece_count b (length f)) f pos some refl

module _ {X : Type 0} (carries : X → Piece) where
  -- the bytes of a rest and one more
  join-last : (rest : List X) (x : X) (f : Bytes) → (carries x).bytes ≡ f → join carries (rest ++ x ∷ []) ≡ join carries rest ++ f
  join-last rest x f e = join-append carries rest (x ∷ []) ∙ ap (λ (l : Bytes). join carries rest ++ l) (append-nil (carries x).bytes ∙ e)

  -- what carries the pieces of a frame ends the rest's frame with it, and leaves nothing unfinished
  pub record Ends (rest xs : List X) (f : Bytes) : Type 0 where
    pub frames : map (join carries) (chains_from carries rest xs) ≡ (join carries rest ++ f) ∷ []
    pub unfinished : unfinished_from carries rest xs ≡ []

  last_ends : (rest : List X) (x : X) (f : Bytes) → carries x ≡ record { bytes = f; eop = true } → Ends rest (x ∷ []) f
  last_ends rest x f e = let ends : (carries x).eop ≡ true = ap (λ (p : Piece). p.eop) e in let bytes : (carries x).bytes ≡ f = ap (λ (p : Piece). p.bytes) e in
      record {
        frames = ap (λ (b : Bool). map (join carries) (if b then (rest ++ x ∷ []) ∷ [] else [])) ends ∙ ap (λ (g : Bytes). g ∷ []) (join-last rest x f bytes);
        unfinished = ap (λ (b : Bool). if b then [] else rest ++ x ∷ []) ends;
      }

  more_ends : (rest : List X) (x : X) (xs : List X) (front back : Bytes) → carries x ≡ record { bytes = front; eop = false }
      → Ends (rest ++ x ∷ []) xs back → Ends rest (x ∷ xs) (front ++ back)
  more_ends rest x xs front back e t = let goes : (carries x).eop ≡ false = ap (λ (p : Piece). p.eop) e in let bytes : (carries x).bytes ≡ front = ap (λ (p : Piece). p.bytes) e in
      record {
        frames = ap (λ (b : Bool). map (join carries) (if b then (rest ++ x ∷ []) ∷ chains_from carries [] xs else chains_from carries (rest ++ x ∷ []) xs)) goes ∙ t.frames
            ∙ ap (λ (g : Bytes). (g ++ back) ∷ []) (join-last rest x front bytes) ∙ ap (λ (g : Bytes). g ∷ []) (append_assoc (join carries rest) front back);
        unfinished = ap (λ (b : Bool). unfinished_from carries (if b then [] else rest ++ x ∷ []) xs) goes ∙ t.unfinished;
      }

  pub ends-pieces : (b k : ℕ) (rest xs : List X) (f : Bytes) → map carries xs ≡ pieces b (suc k) f → Ends rest xs f
  ends-pieces b zero rest [] f e = absurd cc
  ends-pieces b (suc k) rest [] f e = absurd cc
  ends-pieces b zero rest (x ∷ []) f e = last_ends rest x f (same_head (carries x) (record { bytes = f; eop = true }) [] [] e)
  ends-pieces b zero rest (x ∷ y ∷ xs) f e = absurd (let h : map carries (y ∷ xs) ≡ [] = same_tail (carries x) (record { bytes = f; eop = true }) (map carries (y ∷ xs)) [] e in cc)
  ends-pieces b (suc k) rest (x ∷ xs) f e = let p : Piece = record { bytes = take b f; eop = false } in
      subst (λ (g : Bytes). Ends rest (x ∷ xs) g) (take-append-drop b f)
      (more_ends rest x xs (take b f) (drop b f) (same_head (carries x) p (map carries xs) (pieces b (suc k) (drop b f)) e)
      (ends-pieces b k (rest ++ x ∷ []) xs (drop b f) (same_tail (carries x) p (map carries xs) (pieces b (suc k) (drop b f)) e)))

  ends-counted : (b count : ℕ) (rest xs : List X) (f : Bytes) → 0 < b → 0 < length f → piece_count b (length f) ≡ count → map carries xs ≡ pieces b count f → Ends rest xs f
  ends-counted b zero rest xs f pos some e m = let h : 0 ≡ length f = ap length (no_bytes b f pos e) in absurd (omega arith)
  ends-counted b (suc k) rest xs f pos some e m = ends-pieces b k rest xs f m

  pub ends-cut : (b : ℕ) (rest xs : List X) (f : Bytes) → 0 < b → 0 < length f → map carries xs ≡ cut b f → Ends rest xs f
  ends-cut b rest xs f pos some m = ends-counted b (piece_count b (length f)) rest xs f pos some refl m

  pub frames-cut : (b : ℕ) (f : Bytes) (xs : List X) → 0 < b → 0 < length f → map carries xs ≡ cut b f → frames carries xs ≡ f ∷ []
  frames-cut b f xs pos some m = let t = ends-cut b [] xs f pos some m in t.frames

  pub unfinished-cut : (b : ℕ) (f : Bytes) (xs : List X) → 0 < b → 0 < length f → map carries xs ≡ cut b f → unfinished carries xs ≡ []
  unfinished-cut b f xs pos some m = let t = ends-cut b [] xs f pos some m in t.unfinished
