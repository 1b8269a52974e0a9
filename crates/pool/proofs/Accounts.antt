-- Lists that weigh the same have the same members, and numbers that weigh no more than a range are of it, each once.
use Rattle.std.proofs.Common.{◌≡◌, ◌≢◌, ℕ, zero, suc, ◌+◌, ◌<◌, ◌≤◌, Bool, true, false, cond, List, [], ◌∷◌, ◌++◌, length, get_or, refl, sym, ap, ◌∙◌, subst, arith, Contains, eqb, IsPermutation}
use Rattle.std.specs.List.{range_with_len}
use Rattle.std.proofs.lemmas.List.FromFn.{length-range_with_len, get_or-range_with_len}
use Rattle.std.proofs.lemmas.List.Sorted.{IsPermutation-refl, IsPermutation-sym, IsPermutation-trans, IsPermutation-cons, IsPermutation-middle}
use borrow.Author.Tests.{eqb-true, eqb-false, eq-eqb, ne_eqb}
use Rattle.buffer_pool.specs.Buffer.{Buffer}
use Rattle.pool.specs.declared.hand.Hand.{Hand}
use Rattle.pool.specs.Hands.{total, without, HoldsOnce, HoldsWhole, Accounts, WasDry}
use Rattle.pool.specs.Sharing.{numbers}
use Rattle.pool.specs.Plays.{IsFair, Looked}
use Rattle.pool.proofs.Totals.{total-append, total-without}
use Rattle.pool.proofs.Rules.{IfSome-map}

bit : Bool → ℕ
bit true = 1
bit false = 0

-- 1 for n, and 0 for every other number
pub only : ℕ → ℕ → ℕ
only n x = bit (eqb x n)

pub only-itself : (n x : ℕ) → x ≡ n → only n x ≡ 1
unfolding only bit
only-itself n x e = ap bit (eq-eqb x n e)

only-other : (n x : ℕ) → x ≢ n → only n x ≡ 0
unfolding only bit
only-other n x apart = ap bit (ne_eqb x n apart)

-- ---- a number that weighs something is there

pub contained : (n : ℕ) (xs : List ℕ) → 0 < total (only n) xs → Contains xs n
contained n [] h = absurd (omega arith)
contained n (x ∷ xs) h = by_test (eqb x n) (eqb-true x n) (eqb-false x n) (contained n xs)
  where
    by_test : (t : Bool) → (t ≡ true → x ≡ n) → (t ≡ false → x ≢ n) → (0 < total (only n) xs → Contains xs n) → Contains (x ∷ xs) n
    by_test true same apart more = (0, omega arith, same refl)
    by_test false same apart more =
        let c : Contains xs n = more (omega (arith, only-other n x (apart refl))) in
        (suc c.0, omega (arith, c.1), c.2)

total-get : (f : ℕ → ℕ) (xs : List ℕ) (k d : ℕ) → k < length xs → f (get_or xs k d) ≤ total f xs
total-get f [] k d h = absurd (omega arith)
total-get f (x ∷ xs) zero d h = omega arith
total-get f (x ∷ xs) (suc k) d h = omega (arith, total-get f xs k d (omega arith))

total-get-two : (f : ℕ → ℕ) (xs : List ℕ) (i j d : ℕ) → i < j → j < length xs → f (get_or xs i d) + f (get_or xs j d) ≤ total f xs
total-get-two f [] i j d l h = absurd (omega arith)
total-get-two f (x ∷ xs) i zero d l h = absurd (omega arith)
total-get-two f (x ∷ xs) zero (suc j) d l h = omega (arith, total-get f xs j d (omega arith))
total-get-two f (x ∷ xs) (suc i) (suc j) d l h = omega (arith, total-get-two f xs i j d (omega arith) (omega arith))

-- ---- a range has each number once

range-above : (n a c : ℕ) → n < a → total (only n) (range_with_len a c) ≡ 0
range-above n a zero l = refl
range-above n a (suc c) l = omega (arith, only-other n a (λ (e : a ≡ n). omega arith), range-above n (a + 1) c (omega arith))

range-once : (n a c : ℕ) → total (only n) (range_with_len a c) ≤ 1
range-once n a zero = omega arith
range-once n a (suc c) = by_test (eqb a n) (eqb-true a n) (eqb-false a n) (range-once n (a + 1) c)
  where
    by_test : (t : Bool) → (t ≡ true → a ≡ n) → (t ≡ false → a ≢ n) → total (only n) (range_with_len (a + 1) c) ≤ 1
        → only n a + total (only n) (range_with_len (a + 1) c) ≤ 1
    by_test true same apart more = omega (arith, only-itself n a (same refl), range-above n (a + 1) c (omega (arith, same refl)))
    by_test false same apart more = omega (arith, only-other n a (apart refl))

-- ---- lists that weigh the same

without-shuffled : (n : ℕ) (xs : List ℕ) → Contains xs n → IsPermutation xs (n ∷ without n xs)
without-shuffled n [] c = absurd (omega (arith, c.1))
without-shuffled n (x ∷ xs) c = by_test (eqb x n) (eqb-true x n) (eqb-false x n) (without-shuffled n xs)
  where
    further : (k : ℕ) → k < suc (length xs) → get_or (x ∷ xs) k n ≡ n → x ≢ n → Contains xs n
    further zero l e other = absurd (other e)
    further (suc k) l e other = (k, omega arith, e)

    by_test : (t : Bool) → (t ≡ true → x ≡ n) → (t ≡ false → x ≢ n) → (Contains xs n → IsPermutation xs (n ∷ without n xs))
        → IsPermutation (x ∷ xs) (n ∷ cond t xs (x ∷ without n xs))
    by_test true same apart more = subst (λ (y : ℕ). IsPermutation (x ∷ xs) (y ∷ xs)) (same refl) (IsPermutation-refl (x ∷ xs))
    by_test false same apart more =
        let rest = more (further c.0 c.1 c.2 (apart refl)) in
        IsPermutation-trans (x ∷ xs) (x ∷ n ∷ without n xs) (n ∷ x ∷ without n xs)
        (IsPermutation-cons x xs (n ∷ without n xs) rest)
        (IsPermutation-middle (x ∷ []) n (without n xs))

pub same-members : (xs ys : List ℕ) → ((h : ℕ → ℕ) → total h xs ≡ total h ys) → IsPermutation xs ys
same-members [] [] e = IsPermutation-refl []
same-members [] (y ∷ ys) e = absurd (omega (arith, e (λ x. 1)))
same-members (x ∷ xs) ys e =
    let c : Contains ys x = contained x ys (omega (arith, e (only x), only-itself x x refl)) in
    let rest = same-members xs (without x ys) (λ h. omega (arith, e h, total-without h x ys c)) in
    IsPermutation-trans (x ∷ xs) (x ∷ without x ys) ys
    (IsPermutation-cons x xs (without x ys) rest)
    (IsPermutation-sym ys (x ∷ without x ys) (without-shuffled x ys c))

-- ---- what a pass may say of its numbers

holds-once : (v : Hand) → IsFair v → HoldsOnce v
holds-once v fair = record {
  of_pool = λ k d l.
      let n : ℕ = get_or v.held k d in
      let c : Contains (range_with_len 0 v.count) n = contained n (range_with_len 0 v.count)
      (omega (arith, fair.once (only n), total-get (only n) v.held k d l, only-itself n n refl)) in
      omega (arith, c.1, c.2, length-range_with_len 0 v.count, get_or-range_with_len 0 v.count c.0 n (omega (arith, c.1, length-range_with_len 0 v.count)));
  once = λ i j d l h same.
      let n : ℕ = get_or v.held i d in
      omega (
        arith,
        fair.once (only n),
        total-get-two (only n) v.held i j d l h,
        only-itself n n refl,
        only-itself n (get_or v.held j d) (sym same),
        range-once n 0 v.count,
      );
}

pub accounts : (v : Hand) → IsFair v → Accounts v
accounts v fair = record {
  once = holds-once v fair;
  whole = IfSome-map (λ q. (h : ℕ → ℕ) → total h v.held + total h q ≡ total h (range_with_len 0 v.count)) (λ q. IsPermutation (range_with_len 0 v.count) (v.held ++ q)) v.queued
      (λ q e. same-members (range_with_len 0 v.count) (v.held ++ q) (λ h. sym (total-append h v.held q ∙ e h))) fair.whole;
}

-- ---- a pool that was empty

pub was-dry : (v : Hand) (items : List Buffer) → length items ≡ 0 → Looked v items → WasDry v
was-dry v [] none looked = record {
  queued = IfSome-map (λ q. q ≡ []) (λ q. q ≡ []) v.queued (λ q e. e) looked.queued;
  whole = λ whole. same-members (range_with_len 0 v.count) v.held (λ h. omega (arith, looked.whole whole h));
}
was-dry v (b ∷ items) none looked = absurd (omega arith)

pub holds-whole : (v : Hand) (items : List Buffer) → Looked v items → HoldsWhole v
holds-whole v items looked whole = (
  numbers items,
  same-members (range_with_len 0 v.count) (v.held ++ numbers items) (λ h. sym (total-append h v.held (numbers items) ∙ looked.whole whole h)),
)
