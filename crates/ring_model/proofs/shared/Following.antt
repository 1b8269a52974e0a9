-- The pieces of a frame follow one another: each may be stored or posted behind those before it. And where nothing is unfinished, the last ends a frame.
use Rattle.std.proofs.Common.{◌≡◌, ℕ, zero, suc, ◌+◌, ◌<◌, ◌≤◌, Bool, true, false, List, [], ◌∷◌, ◌++◌, map, length, take, drop, Some, sym, refl, ap, ◌∙◌, subst, arith, if◌then◌else◌, append_assoc, append-nil, suc-mul, length-take, length-drop, length-append, zero-mul}
use Rattle.std.specs.Prelude.{slice_get}
use Rattle.std.proofs.lemmas.Bool.{false≢true}
use Rattle.std.proofs.lemmas.Option.{none-some, same_Some}
use Rattle.limits.specs.declared.profile.TheConstants.{BUFFER_BYTES, LEAST_FRAME, MOST_FRAME, MOST_SEGMENTS}
use Rattle.ring_model.specs.shared.Frames.{Bytes, Piece, pieces, piece_count, cut, join, ends_frame, unfinished_from, unfinished, Follows}
use Rattle.ring_model.specs.kept.CanCut.{CanCut}
use Rattle.ring_model.proofs.shared.Beginnings.{same_head, same_tail}
use Rattle.ring_model.proofs.shared.FrameLaws.{length-join-snoc}
use Rattle.ring_model.proofs.shared.Cuts.{Needs, needs, one_less, shortest}

-- len bytes are left for k + 1 pieces, behind so many segments with so many bytes
record Left (n b k segments bytes len : ℕ) : Type 0 where
  some_room : 0 < b
  room : b ≤ BUFFER_BYTES
  count : Needs b k len
  segments_fit : segments + suc k ≤ MOST_SEGMENTS
  descriptors : segments + suc k < n
  most : bytes + len ≤ MOST_FRAME
  least : LEAST_FRAME ≤ bytes + len

module _ {X : Type 0} (carries : X → Piece) where
  follows_last : (n b : ℕ) (before : List X) (f : Bytes) → Left n b 0 (length before) (length (join carries before)) (length f) → Follows carries n before f true
  follows_last n b before f l = let a = l.count.more in let c = l.count.enough in let d = l.segments_fit in let e = l.descriptors in let r = l.room in let z = zero-mul b in record {
    some_bytes = omega arith;
    few_bytes = omega arith;
    segments = omega arith;
    descriptors = omega arith;
    most = l.most;
    least = λ ends. l.least;
  }

  follows_more : (n b k : ℕ) (before : List X) (f : Bytes) → Left n b (suc k) (length before) (length (join carries before)) (length f) → Follows carries n before (take b f) false
  follows_more n b k before f l = let a = l.count.more in let c = l.count.enough in let d = l.segments_fit in let e = l.descriptors in let r = l.room in let g = l.most in let p = l.some_room in
      let m = suc-mul k b in let full : length (take b f) ≡ b = length-take b f ∙ shortest b (length f) (omega arith) in record {
        some_bytes = omega arith;
        few_bytes = omega arith;
        segments = omega arith;
        descriptors = omega arith;
        most = omega arith;
        least = λ ends. absurd (false≢true ends);
      }

  -- the bytes behind one piece of b bytes
  behind : (n b k : ℕ) (before : List X) (x : X) (f : Bytes) → Left n b (suc k) (length before) (length (join carries before)) (length f) → (carries x).bytes ≡ take b f
      → Left n b k (length (before ++ x ∷ [])) (length (join carries (before ++ x ∷ []))) (length (drop b f))
  behind n b k before x f l e = let m = suc-mul k b in let a = l.count.more in let c = l.count.enough in let d = l.segments_fit in let o = l.descriptors in let g = l.most in let h = l.least in
      let full : length (carries x).bytes ≡ b = ap length e ∙ length-take b f ∙ shortest b (length f) (omega arith) in
      let longer = length-append before (x ∷ []) in let joined = length-join-snoc carries before x in let shorter = length-drop b f in record {
        some_room = l.some_room;
        room = l.room;
        count = one_less b k f l.count;
        segments_fit = omega arith;
        descriptors = omega arith;
        most = omega arith;
        least = omega arith;
      }

  follows_pieces : (n b k : ℕ) (before rest : List X) (f : Bytes) (j : ℕ) (p : Piece) → Left n b k (length before) (length (join carries before)) (length f)
      → map carries rest ≡ take j (pieces b (suc k) f) → slice_get (pieces b (suc k) f) j ≡ Some p → Follows carries n (before ++ rest) p.bytes p.eop
  follows_pieces n b zero before [] f zero p l m e = subst (λ (q : Piece). Follows carries n (before ++ []) q.bytes q.eop) (same_Some (record { bytes = f; eop = true }) p e)
      (subst (λ (xs : List X). Follows carries n xs f true) (sym (append-nil before)) (follows_last n b before f l))
  follows_pieces n b zero before (x ∷ rest) f zero p l m e = absurd cc
  follows_pieces n b zero before rest f (suc j) p l m e = absurd (none-some p e)
  follows_pieces n b (suc k) before [] f zero p l m e = subst (λ (q : Piece). Follows carries n (before ++ []) q.bytes q.eop) (same_Some (record { bytes = take b f; eop = false }) p e)
      (subst (λ (xs : List X). Follows carries n xs (take b f) false) (sym (append-nil before)) (follows_more n b k before f l))
  follows_pieces n b (suc k) before (x ∷ rest) f zero p l m e = absurd cc
  follows_pieces n b (suc k) before [] f (suc j) p l m e = absurd cc
  follows_pieces n b (suc k) before (x ∷ rest) f (suc j) p l m e = let front : Piece = record { bytes = take b f; eop = false } in
      subst (λ (xs : List X). Follows carries n xs p.bytes p.eop) (append_assoc before (x ∷ []) rest)
      (follows_pieces n b k (before ++ x ∷ []) rest (drop b f) j p
      (behind n b k before x f l (ap (λ (q : Piece). q.bytes) (same_head (carries x) front (map carries rest) (take j (pieces b (suc k) (drop b f))) m)))
      (same_tail (carries x) front (map carries rest) (take j (pieces b (suc k) (drop b f))) m) e)

  -- how many pieces are left of a frame that is cut
  starts : (n b len k : ℕ) → CanCut n b len → piece_count b len ≡ suc k → Left n b k 0 0 len
  starts n b len k c e = let least = c.least in let most = c.most in let few = c.segments in let out = c.descriptors in record {
    some_room = c.some_room;
    room = c.room;
    count = needs b len k c.some_room (omega arith) e;
    segments_fit = omega arith;
    descriptors = omega arith;
    most = omega arith;
    least = omega arith;
  }

  follows_counted : (n b count : ℕ) (f : Bytes) (rest : List X) (j : ℕ) (p : Piece) → CanCut n b (length f) → piece_count b (length f) ≡ count
      → map carries rest ≡ take j (pieces b count f) → slice_get (pieces b count f) j ≡ Some p → Follows carries n rest p.bytes p.eop
  follows_counted n b zero f rest j p c q m e = absurd (none-some p e)
  follows_counted n b (suc k) f rest j p c q m e = follows_pieces n b k [] rest f j p (starts n b (length f) k c q) m e

  -- behind what carries the first j pieces of a frame, its next piece may follow
  pub follows-cut : (n b : ℕ) (f : Bytes) (rest : List X) (j : ℕ) (p : Piece) → CanCut n b (length f)
      → map carries rest ≡ take j (cut b f) → slice_get (cut b f) j ≡ Some p → Follows carries n rest p.bytes p.eop
  follows-cut n b f rest j p c m e = follows_counted n b (piece_count b (length f)) f rest j p c refl m e

  -- whether anything is unfinished is whether the last of them ends a frame
  pub record Finished (rest xs : List X) (whole : Bool) : Type 0 where
    pub ended : unfinished_from carries rest xs ≡ [] → ends_frame (λ x. (carries x).eop) whole xs ≡ true
    pub nothing : ends_frame (λ x. (carries x).eop) whole xs ≡ true → unfinished_from carries rest xs ≡ []

  -- nothing is unfinished where `whole` says so
  record Says (rest : List X) (whole : Bool) : Type 0 where
    ended : rest ≡ [] → whole ≡ true
    nothing : whole ≡ true → rest ≡ []

  says_next : (rest : List X) (x : X) (ends : Bool) → Says (if ends then [] else rest ++ x ∷ []) ends
  says_next rest x true = record { ended = λ e. refl; nothing = λ e. refl }
  says_next [] x false = record { ended = λ e. absurd cc; nothing = λ e. absurd (false≢true e) }
  says_next (y ∷ rest) x false = record { ended = λ e. absurd cc; nothing = λ e. absurd (false≢true e) }

  finished_from : (rest xs : List X) (whole : Bool) → Says rest whole → Finished rest xs whole
  finished_from rest [] whole s = record { ended = s.ended; nothing = s.nothing }
  finished_from rest (x ∷ xs) whole s = let t = finished_from (if (carries x).eop then [] else rest ++ x ∷ []) xs (carries x).eop (says_next rest x (carries x).eop) in record { ended = t.ended; nothing = t.nothing }

  pub finished : (xs : List X) → Finished [] xs true
  finished xs = finished_from [] xs true (record { ended = λ e. refl; nothing = λ e. refl })

  -- where the last ends a frame nothing is unfinished
  pub whole-unfinished : (xs : List X) → ends_frame (λ x. (carries x).eop) true xs ≡ true → unfinished carries xs ≡ []
  whole-unfinished xs e = let f = finished xs in f.nothing e

  -- where nothing is unfinished the last ends a frame
  pub unfinished-whole : (xs : List X) → unfinished carries xs ≡ [] → ends_frame (λ x. (carries x).eop) true xs ≡ true
  unfinished-whole xs e = let f = finished xs in f.ended e
