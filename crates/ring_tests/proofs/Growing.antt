-- The frame that is begun, as one more segment or posting follows: how many it has, and how many bytes they carry.
use Rattle.std.proofs.Common.{◌≡◌, ◌∙◌, ℕ, ◌+◌, Bool, true, false, List, [], ◌∷◌, ◌++◌, length, length-append, ap, if◌then◌else◌}
use Rattle.ring_model.specs.shared.Frames.{Piece, join, unfinished}
use Rattle.ring_laws.specs.Frames.{unfinished-snoc, length-join-snoc}

module _ {X : Type 0} (carries : X → Piece) where
  -- where it ends the frame, none is begun
  pub begun_ends : (xs ys : List X) (x : X) → ys ≡ xs ++ x ∷ [] → (carries x).eop ≡ true → unfinished carries ys ≡ []
  begun_ends xs ys x grew ends = ap (unfinished carries) grew ∙ (unfinished-snoc carries xs x ∙ ap (λ (b : Bool). if b then [] else unfinished carries xs ++ x ∷ []) ends)

  -- where not, it is one more of them
  pub begun_grows : (xs ys : List X) (x : X) → ys ≡ xs ++ x ∷ [] → (carries x).eop ≡ false → unfinished carries ys ≡ unfinished carries xs ++ x ∷ []
  begun_grows xs ys x grew goes = ap (unfinished carries) grew ∙ (unfinished-snoc carries xs x ∙ ap (λ (b : Bool). if b then [] else unfinished carries xs ++ x ∷ []) goes)

  pub begun_count : (xs ys : List X) (x : X) (count : ℕ) → ys ≡ xs ++ x ∷ [] → (carries x).eop ≡ false → length (unfinished carries xs) ≡ count → length (unfinished carries ys) ≡ count + 1
  begun_count xs ys x count grew goes was = ap length (begun_grows xs ys x grew goes) ∙ (length-append (unfinished carries xs) (x ∷ []) ∙ ap (λ k. k + 1) was)

  pub begun_bytes : (xs ys : List X) (x : X) (bytes : ℕ) → ys ≡ xs ++ x ∷ [] → (carries x).eop ≡ false → length (join carries (unfinished carries xs)) ≡ bytes → length (join carries (unfinished carries ys)) ≡ bytes + length (carries x).bytes
  begun_bytes xs ys x bytes grew goes was = ap (λ l. length (join carries l)) (begun_grows xs ys x grew goes) ∙ (length-join-snoc carries (unfinished carries xs) x ∙ ap (λ k. k + length (carries x).bytes) was)
