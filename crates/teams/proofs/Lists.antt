-- Lists to which an item is added at the end.
use Rattle.std.proofs.Common.{◌≡◌, ◌∙◌, ◌<◌, ℕ, zero, get_or, List, [], ◌∷◌, ◌++◌, refl, ap, sym, subst, map, All, suc, arith, rules, length}
use Rattle.std.proofs.lemmas.List.Elements.{All-append}

pub length-zero : {A : Type 0} (xs : List A) → length xs ≡ 0 → xs ≡ []
length-zero [] e = refl
length-zero (x ∷ xs) e = absurd (omega (arith, e))

-- what was the first of the rest is now the last of the mapped list
pub shifted : {A C : Type 0} (f : A → C) (xs ys : List A) (x : A) (rest tail : List C) (c : C)
    → rest ≡ c ∷ tail → ys ≡ xs ++ x ∷ [] → f x ≡ c → map f ys ++ tail ≡ map f xs ++ rest
shifted {A} {C} f xs ys x rest tail c first pushed same =
    ap (λ l. map f l ++ tail) pushed ∙ go xs ∙ ap (λ l. map f xs ++ l) (sym first)
  where
    go : (zs : List A) → map f (zs ++ x ∷ []) ++ tail ≡ map f zs ++ c ∷ tail
    go [] = ap (λ z. z ∷ tail) same
    go (z ∷ zs) = ap (λ l. f z ∷ l) (go zs)

pub All-pushed : {X : Type 0} (P : X → Type 0) (xs ys : List X) (x : X) → ys ≡ xs ++ x ∷ [] → All P xs → P x → All P ys
All-pushed P xs ys x pushed all one = subst (All P) (sym pushed) (All-append P xs (x ∷ []) all (search rules))

pub All-first : {X : Type 0} (P : X → Type 0) (xs : List X) (x : X) (tail : List X) → xs ≡ x ∷ tail → All P xs → P x
All-first P xs x tail e all = (let h : All P (x ∷ tail) = subst (All P) e all in h 0 x (search rules))

pub All-later : {X : Type 0} (P : X → Type 0) (xs : List X) (x : X) (tail : List X) → xs ≡ x ∷ tail → All P xs → All P tail
All-later P xs x tail e all = (let h : All P (x ∷ tail) = subst (All P) e all in λ k d low. h (suc k) d (omega (arith, low)))

-- what was the first of the rest is now the last of those before it
pub append-one : {X : Type 0} (done : List X) (x : X) (rest tail : List X) → rest ≡ x ∷ tail → done ++ rest ≡ (done ++ x ∷ []) ++ tail
append-one [] x rest tail first = first
append-one (y ∷ ys) x rest tail first = ap (λ l. y ∷ l) (append-one ys x rest tail first)

-- what a mapped list has at a place, whatever stands for a missing item
pub mapped-at : {A B : Type 0} (f : A → B) (xs : List A) (i : ℕ) (y d : B) → i < length xs → ((e : A) → f (get_or xs i e) ≡ y) → get_or (map f xs) i d ≡ y
mapped-at f [] i y d low each = absurd (omega (arith, low))
mapped-at f (x ∷ xs) zero y d low each = each x
mapped-at f (x ∷ xs) (suc i) y d low each = mapped-at f xs i y d (omega (arith, low)) each

-- a list with an item has a first one
pub first-of : {X : Type 0} (xs : List X) → 0 < length xs → (x : X) × (tail : List X) × (xs ≡ x ∷ tail)
first-of [] some = absurd (omega (arith, some))
first-of (x ∷ xs) some = (x, xs, refl)
