-- Sums of weights, over lists of numbers and over the views of all passes.
use Rattle.std.proofs.Common.{◌≡◌, ◌≢◌, ℕ, zero, suc, ◌+◌, ◌<◌, ◌≤◌, Bool, true, false, cond, List, [], ◌∷◌, ◌++◌, length, set, refl, sym, ap, arith, get_or, Contains, eqb}
use mathlib.Core.Option.{some, some-injective, some-ne-none}
use lib.ListN.{get_elem?}
use borrow.Author.Tests.{eqb-true, eqb-false}
use Rattle.pool.specs.Hands.{total, without}

module _ {X : Type 0} (f : X → ℕ) where
  pub total-append : (xs ys : List X) → total f (xs ++ ys) ≡ total f xs + total f ys
  total-append [] ys = omega arith
  total-append (x ∷ xs) ys = omega (arith, total-append xs ys)

  -- the total after a change of one member
  pub total-set : (xs : List X) (i : ℕ) (v w : X) → get_elem? xs i ≡ some v → total f (set xs i w) + f v ≡ total f xs + f w
  total-set [] i v w e = absurd (some-ne-none v (sym e))
  total-set (x ∷ xs) zero v w e = omega (arith, ap f (some-injective x v e))
  total-set (x ∷ xs) (suc i) v w e = omega (arith, total-set xs i v w e)

  pub total-at : (xs : List X) (i : ℕ) (v : X) → get_elem? xs i ≡ some v → f v ≤ total f xs
  total-at [] i v e = absurd (some-ne-none v (sym e))
  total-at (x ∷ xs) zero v e = omega (arith, ap f (some-injective x v e))
  total-at (x ∷ xs) (suc i) v e = omega (arith, total-at xs i v e)

  pub total-two : (xs : List X) (i j : ℕ) (v w : X) → i ≢ j → get_elem? xs i ≡ some v → get_elem? xs j ≡ some w → f v + f w ≤ total f xs
  total-two [] i j v w n e d = absurd (some-ne-none v (sym e))
  total-two (x ∷ xs) zero zero v w n e d = absurd (n refl)
  total-two (x ∷ xs) zero (suc j) v w n e d = omega (arith, ap f (some-injective x v e), total-at xs j w d)
  total-two (x ∷ xs) (suc i) zero v w n e d = omega (arith, ap f (some-injective x w d), total-at xs i v e)
  total-two (x ∷ xs) (suc i) (suc j) v w n e d = omega (arith, total-two xs i j v w (λ (p : i ≡ j). n (ap suc p)) e d)

module _ {X : Type 0} (f s : X → ℕ) where
  -- what is 0 wherever s is 0 adds up to nothing where s does
  pub total-none : (xs : List X) → ((j : ℕ) (u : X) → get_elem? xs j ≡ some u → s u ≡ 0 → f u ≡ 0) → total s xs ≡ 0 → total f xs ≡ 0
  total-none [] idle e = refl
  total-none (x ∷ xs) idle e = omega (arith, idle 0 x refl (omega arith), total-none xs (λ j u. idle (suc j) u) (omega arith))

  -- where one member has all of s, it has all of f
  pub total-alone : (xs : List X) (i : ℕ) (v : X) → get_elem? xs i ≡ some v
      → ((j : ℕ) (u : X) → get_elem? xs j ≡ some u → s u ≡ 0 → f u ≡ 0) → total s xs ≡ s v → total f xs ≡ f v
  total-alone [] i v e idle h = absurd (some-ne-none v (sym e))
  total-alone (x ∷ xs) zero v e idle h = omega (
    arith,
    ap f (some-injective x v e),
    ap s (some-injective x v e),
    total-none xs (λ j u. idle (suc j) u) (let same = ap s (some-injective x v e) in omega arith),
  )
  total-alone (x ∷ xs) (suc i) v e idle h =
      let here = total-at s xs i v e in
      omega (arith, idle 0 x refl (omega arith), total-alone xs i v e (λ j u. idle (suc j) u) (omega arith))

-- ---- numbers of a list

pub total-ones : (xs : List ℕ) → total (λ x. 1) xs ≡ length xs
total-ones [] = refl
total-ones (x ∷ xs) = omega (arith, total-ones xs)

without-step : (h : ℕ → ℕ) (n x : ℕ) (xs : List ℕ) (t : Bool) → (t ≡ true → x ≡ n) → (t ≡ false → h n + total h (without n xs) ≡ total h xs)
    → h n + total h (cond t xs (x ∷ without n xs)) ≡ h x + total h xs
without-step h n x xs true same more = omega (arith, ap h (same refl))
without-step h n x xs false same more = omega (arith, more refl)

-- one that is in the list weighs as much as the list loses
pub total-without : (h : ℕ → ℕ) (n : ℕ) (xs : List ℕ) → Contains xs n → h n + total h (without n xs) ≡ total h xs
total-without h n [] c = absurd (omega (arith, c.1))
total-without h n (x ∷ xs) c = without-step h n x xs (eqb x n) (eqb-true x n)
    (λ apart. total-without h n xs (further c.0 c.1 c.2 (eqb-false x n apart)))
  where
    further : (k : ℕ) → k < suc (length xs) → get_or (x ∷ xs) k n ≡ n → (x ≡ n → ⊥) → Contains xs n
    further zero l e other = absurd (other e)
    further (suc k) l e other = (k, omega arith, e)
