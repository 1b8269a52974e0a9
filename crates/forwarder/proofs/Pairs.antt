-- Two lists that go together place by place, one item more in each.
use Rattle.std.proofs.Common.{◌≡◌, ◌∙◌, ℕ, ◌+◌, ◌<◌, List, [], ◌∷◌, ◌++◌, refl, ap, sym, subst, length, get_or, slice_index_or, zero, suc, inl, inr, arith}
use Rattle.std.specs.List.{AllZip}
use Rattle.std.proofs.lemmas.Bool.{cases_eq}

pub before : {X : Type 0} (xs : List X) (x d : X) (i : ℕ) → i < length xs → get_or (xs ++ x ∷ []) i d ≡ get_or xs i d
before [] x d i low = absurd (omega (arith, low))
before (y ∷ ys) x d zero low = refl
before (y ∷ ys) x d (suc i) low = before ys x d i (omega (arith, low))

pub last : {X : Type 0} (xs : List X) (x d : X) → get_or (xs ++ x ∷ []) (length xs) d ≡ x
last [] x d = refl
last (y ∷ ys) x d = last ys x d

pub pairs-more : {A B : Type 0} (R : A → B → Type 0) (xs xs' : List A) (x : A) (ys ys' : List B) (y : B) (n : ℕ)
    → length xs ≡ n → length ys ≡ n → xs' ≡ xs ++ x ∷ [] → ys' ≡ ys ++ y ∷ [] → R x y
    → ((k : ℕ) (d : A) (e : B) → k < n → R (get_or xs k d) (get_or ys k e))
    → (k : ℕ) (d : A) (e : B) → k < n + 1 → R (get_or xs' k d) (get_or ys' k e)
pairs-more R xs xs' x ys ys' y n many many' pushed pushed' new old k d e low = elim (cases_eq k n) [
  | inl same ↦ subst (λ a. R a (get_or ys' k e))
      (sym (ap (λ l. get_or l k d) pushed ∙ ap (λ i. get_or (xs ++ x ∷ []) i d) (same ∙ sym many) ∙ last xs x d))
      (subst (λ b. R x b) (sym (ap (λ l. get_or l k e) pushed' ∙ ap (λ i. get_or (ys ++ y ∷ []) i e) (same ∙ sym many') ∙ last ys y e)) new)
  | inr other ↦ (let less : k < n = omega (arith, low, other) in
      subst (λ a. R a (get_or ys' k e)) (sym (ap (λ l. get_or l k d) pushed ∙ before xs x d k (omega (arith, less, many))))
      (subst (λ b. R (get_or xs k d) b) (sym (ap (λ l. get_or l k e) pushed' ∙ before ys y e k (omega (arith, less, many')))) (old k d e less)))
]

-- what holds of two lists place by place holds at each place
pub zip-at : {A B : Type 0} (R : A → B → Type 0) (xs : List A) (ys : List B) (k : ℕ) (d : A) (e : B) → AllZip R xs ys → k < length xs
    → R (slice_index_or xs k d) (slice_index_or ys k e)
zip-at R [] ys k d e all low = absurd (let bad : ⊥ = omega (arith, low) in bad)
zip-at R (x ∷ xs) [] k d e all low = absurd all
zip-at R (x ∷ xs) (y ∷ ys) zero d e all low = all.0
zip-at R (x ∷ xs) (y ∷ ys) (suc k) d e all low = zip-at R xs ys k d e all.1 (let less : k < length xs = omega (arith, low) in less)
