-- Frames and segments: what one more, or a list behind, makes of the chains, of the frames and of the unfinished rest.
use Rattle.std.proofs.Common.{◌≡◌, ℕ, zero, suc, ◌+◌, Bool, true, false, List, [], ◌∷◌, ◌++◌, map, length, take, Some, sym, refl, ap, ◌∙◌, ⊎_elim, subst, arith, if◌then◌else◌, append_assoc, append-nil, length-append}
use Rattle.std.specs.Prelude.{slice_get}
use Rattle.std.proofs.lemmas.Option.{none-some, same_Some, slice_get_within}
use Rattle.std.proofs.lemmas.List.{map-append, take-append-le}
use Rattle.std.proofs.Math.Seq.{take-append_seam}
use Rattle.ring_model.specs.shared.Lists.{IsBeginning}
use Rattle.ring_model.specs.shared.Frames.{Bytes, Piece, join, unfinished_from, unfinished, chains_from, chains, frames, Follows, AllFollow, HasFrameLength}
use Rattle.ring_model.proofs.shared.Beginnings.{slice_get-snoc, beginning_at}

module _ {X : Type 0} (carries : X → Piece) where
  pub join-append : (xs ys : List X) → join carries (xs ++ ys) ≡ join carries xs ++ join carries ys
  join-append [] ys = refl
  join-append (x ∷ xs) ys = ap (λ (l : Bytes). (carries x).bytes ++ l) (join-append xs ys) ∙ sym (append_assoc (carries x).bytes (join carries xs) (join carries ys))

  pub length-join-snoc : (xs : List X) (x : X) → length (join carries (xs ++ x ∷ [])) ≡ length (join carries xs) + length (carries x).bytes
  length-join-snoc xs x = ap length (join-append xs (x ∷ [])) ∙ length-append (join carries xs) ((carries x).bytes ++ [])
      ∙ ap (λ (l : Bytes). length (join carries xs) + length l) (append-nil (carries x).bytes)

  pub unfinished_from-append : (rest xs ys : List X) → unfinished_from carries rest (xs ++ ys) ≡ unfinished_from carries (unfinished_from carries rest xs) ys
  unfinished_from-append rest [] ys = refl
  unfinished_from-append rest (x ∷ xs) ys = unfinished_from-append (if (carries x).eop then [] else rest ++ x ∷ []) xs ys

  pub unfinished-append : (xs ys : List X) → unfinished carries (xs ++ ys) ≡ unfinished_from carries (unfinished carries xs) ys
  unfinished-append xs ys = unfinished_from-append [] xs ys

  pub unfinished-snoc : (xs : List X) (x : X) → unfinished carries (xs ++ x ∷ []) ≡ (if (carries x).eop then [] else unfinished carries xs ++ x ∷ [])
  unfinished-snoc xs x = unfinished_from-append [] xs (x ∷ [])

  -- whether or not the first ends a frame, the chains of the others go on alike
  chains_from-past : (rest : List X) (x : X) (xs ys : List X) (ends : Bool)
      → chains_from carries [] (xs ++ ys) ≡ chains_from carries [] xs ++ chains_from carries (unfinished_from carries [] xs) ys
      → chains_from carries (rest ++ x ∷ []) (xs ++ ys) ≡ chains_from carries (rest ++ x ∷ []) xs ++ chains_from carries (unfinished_from carries (rest ++ x ∷ []) xs) ys
      → (if ends then (rest ++ x ∷ []) ∷ chains_from carries [] (xs ++ ys) else chains_from carries (rest ++ x ∷ []) (xs ++ ys))
      ≡ (if ends then (rest ++ x ∷ []) ∷ chains_from carries [] xs else chains_from carries (rest ++ x ∷ []) xs) ++ chains_from carries (unfinished_from carries (if ends then [] else rest ++ x ∷ []) xs) ys
  chains_from-past rest x xs ys true a b = ap (λ (l : List (List X)). (rest ++ x ∷ []) ∷ l) a
  chains_from-past rest x xs ys false a b = b

  pub chains_from-append : (rest xs ys : List X) → chains_from carries rest (xs ++ ys) ≡ chains_from carries rest xs ++ chains_from carries (unfinished_from carries rest xs) ys
  chains_from-append rest [] ys = refl
  chains_from-append rest (x ∷ xs) ys = chains_from-past rest x xs ys (carries x).eop (chains_from-append [] xs ys) (chains_from-append (rest ++ x ∷ []) xs ys)

  pub frames-append : (xs ys : List X) → frames carries (xs ++ ys) ≡ frames carries xs ++ map (join carries) (chains_from carries (unfinished carries xs) ys)
  frames-append xs ys = ap (λ (l : List (List X)). map (join carries) l) (chains_from-append [] xs ys) ∙ map-append (join carries) (chains carries xs) (chains_from carries (unfinished carries xs) ys)

  last_frame : (chain : List X) (ends : Bool) → map (join carries) (if ends then chain ∷ [] else []) ≡ (if ends then join carries chain ∷ [] else [])
  last_frame chain true = refl
  last_frame chain false = refl

  pub frames-snoc : (xs : List X) (x : X) → frames carries (xs ++ x ∷ []) ≡ frames carries xs ++ (if (carries x).eop then join carries (unfinished carries xs ++ x ∷ []) ∷ [] else [])
  frames-snoc xs x = frames-append xs (x ∷ []) ∙ ap (λ (l : List Bytes). frames carries xs ++ l) (last_frame (unfinished carries xs ++ x ∷ []) (carries x).eop)

  -- the frames of a beginning are a beginning of the frames
  pub frames-beginning : (xs ys : List X) → IsBeginning xs ys → IsBeginning (frames carries xs) (frames carries ys)
  frames-beginning xs ys b = (map (join carries) (chains_from carries (unfinished carries xs) b.0), sym (frames-append xs b.0) ∙ ap (frames carries) b.1)

  -- each stands as it should to the unfinished frame before it
  abbrev pub EachStands : (List X → X → Type 0) → List X → Type 0
  EachStands Stands xs = (k : ℕ) (x : X) → slice_get xs k ≡ Some x → Stands (unfinished carries (take k xs)) x

  module _ (Stands : List X → X → Type 0) where
    pub stands-nil : EachStands Stands []
    stands-nil = λ k x e. absurd (none-some x e)

    pub stands-snoc : (xs : List X) (x : X) → EachStands Stands xs → Stands (unfinished carries xs) x → EachStands Stands (xs ++ x ∷ [])
    stands-snoc xs x all f = λ k y e. ⊎_elim
        (λ a. let h = a.0 in subst (λ (l : List X). Stands (unfinished carries l) y) (sym (take-append-le k xs (x ∷ []) (omega arith))) (all k y a.1))
        (λ b. subst (λ (z : X). Stands (unfinished carries (take k (xs ++ x ∷ []))) z) b.1
        (subst (λ (j : ℕ). Stands (unfinished carries (take j (xs ++ x ∷ []))) x) (sym b.0)
        (subst (λ (l : List X). Stands (unfinished carries l) x) (sym (take-append_seam xs (x ∷ []))) f)))
        (slice_get-snoc xs x y k e)

    -- those of a beginning stand as they do in the whole
    pub stands-beginning : (xs ys : List X) → IsBeginning xs ys → EachStands Stands ys → EachStands Stands xs
    stands-beginning xs ys b all = λ k x e. let h = slice_get_within xs k x e in
        subst (λ (l : List X). Stands (unfinished carries l) x) (ap (λ (l : List X). take k l) (sym b.1) ∙ take-append-le k xs b.0 (omega arith))
        (all k x (beginning_at xs ys k x b e))

    -- the next after those of a beginning stands to their unfinished frame
    pub stands_next : (xs ys : List X) (x : X) → IsBeginning xs ys → slice_get ys (length xs) ≡ Some x → EachStands Stands ys → Stands (unfinished carries xs) x
    stands_next xs ys x b e all = subst (λ (l : List X). Stands (unfinished carries l) x) (ap (λ (l : List X). take (length xs) l) (sym b.1) ∙ take-append_seam xs b.0)
        (all (length xs) x e)

    -- what holds of a chain whose last stands to those before it holds of each chain
    module _ (Whole : List X → Type 0) (ended : (rest : List X) (x : X) → (carries x).eop ≡ true → Stands rest x → Whole (rest ++ x ∷ [])) where
      chained : (rest : List X) (x : X) (xs : List X) (ends : Bool) → (carries x).eop ≡ ends → Stands rest x
          → ((k : ℕ) (c : List X) → slice_get (chains_from carries (if ends then [] else rest ++ x ∷ []) xs) k ≡ Some c → Whole c)
          → (k : ℕ) (c : List X) → slice_get (if ends then (rest ++ x ∷ []) ∷ chains_from carries [] xs else chains_from carries (rest ++ x ∷ []) xs) k ≡ Some c → Whole c
      chained rest x xs true ends stands others zero c e = subst Whole (same_Some (rest ++ x ∷ []) c e) (ended rest x ends stands)
      chained rest x xs true ends stands others (suc k) c e = others k c e
      chained rest x xs false ends stands others k c e = others k c e

      chained_from : (rest xs : List X) → ((k : ℕ) (x : X) → slice_get xs k ≡ Some x → Stands (unfinished_from carries rest (take k xs)) x)
          → (k : ℕ) (c : List X) → slice_get (chains_from carries rest xs) k ≡ Some c → Whole c
      chained_from rest [] all k c e = absurd (none-some c e)
      chained_from rest (x ∷ xs) all k c e = chained rest x xs (carries x).eop refl (all zero x refl) (chained_from (if (carries x).eop then [] else rest ++ x ∷ []) xs (λ j y f. all (suc j) y f)) k c e

      pub each_chain : (xs : List X) → EachStands Stands xs → (k : ℕ) (c : List X) → slice_get (chains carries xs) k ≡ Some c → Whole c
      each_chain xs all = chained_from [] xs all

  -- what holds of the bytes of each chain holds of each frame
  pub each_frame : (Lawful : Bytes → Type 0) (xs : List X) → ((k : ℕ) (c : List X) → slice_get (chains carries xs) k ≡ Some c → Lawful (join carries c))
      → (k : ℕ) (f : Bytes) → slice_get (frames carries xs) k ≡ Some f → Lawful f
  each_frame Lawful xs all k f e = each_mapped Lawful (chains carries xs) all k f e
    where
      each_mapped : (Lawful : Bytes → Type 0) (cs : List (List X)) → ((k : ℕ) (c : List X) → slice_get cs k ≡ Some c → Lawful (join carries c))
          → (k : ℕ) (f : Bytes) → slice_get (map (join carries) cs) k ≡ Some f → Lawful f
      each_mapped Lawful [] all k f e = absurd (none-some f e)
      each_mapped Lawful (c ∷ cs) all zero f e = subst Lawful (same_Some (join carries c) f e) (all zero c refl)
      each_mapped Lawful (c ∷ cs) all (suc k) f e = each_mapped Lawful cs (λ j d g. all (suc j) d g) k f e

  pub AllFollow-nil : (n : ℕ) → AllFollow carries n []
  AllFollow-nil n = stands-nil (λ before x. Follows carries n before (carries x).bytes (carries x).eop)

  pub AllFollow-snoc : (n : ℕ) (xs : List X) (x : X) → AllFollow carries n xs → Follows carries n (unfinished carries xs) (carries x).bytes (carries x).eop → AllFollow carries n (xs ++ x ∷ [])
  AllFollow-snoc n xs x all f = stands-snoc (λ before y. Follows carries n before (carries y).bytes (carries y).eop) xs x all f

  -- those of a beginning follow as they do in the whole
  pub AllFollow-beginning : (n : ℕ) (xs ys : List X) → IsBeginning xs ys → AllFollow carries n ys → AllFollow carries n xs
  AllFollow-beginning n xs ys b all = stands-beginning (λ before x. Follows carries n before (carries x).bytes (carries x).eop) xs ys b all

  -- the next after those of a beginning follows their unfinished frame
  pub follows_next : (n : ℕ) (xs ys : List X) (x : X) → IsBeginning xs ys → slice_get ys (length xs) ≡ Some x → AllFollow carries n ys
      → Follows carries n (unfinished carries xs) (carries x).bytes (carries x).eop
  follows_next n xs ys x b e all = stands_next (λ before y. Follows carries n before (carries y).bytes (carries y).eop) xs ys x b e all

  -- a chain whose last follows those before it
  pub grown : (n : ℕ) (rest : List X) (x : X) → (carries x).eop ≡ true → Follows carries n rest (carries x).bytes (carries x).eop → HasFrameLength (join carries (rest ++ x ∷ []))
  grown n rest x ends f = let e = length-join-snoc rest x in let low = f.least ends in let high = f.most in (rw e low, rw e high)

  -- where each follows the rest before it, each frame that ends has a lawful length
  pub AllFollow-lengths : (n : ℕ) (xs : List X) → AllFollow carries n xs → (k : ℕ) (f : Bytes) → slice_get (frames carries xs) k ≡ Some f → HasFrameLength f
  AllFollow-lengths n xs all = each_frame HasFrameLength xs
      (each_chain (λ before x. Follows carries n before (carries x).bytes (carries x).eop) (λ c. HasFrameLength (join carries c)) (grown n) xs all)
