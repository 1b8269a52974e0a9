-- What tests on places tell of the counts that they stand for.
use Rattle.std.proofs.Common.{◌≡◌, ◌≢◌, ℕ, ◌+◌, ◌-◌, ◌%◌, ◌<◌, ◌≤◌, Bool, true, false, not, ◌&&◌, sym, refl, ap, ◌∙◌, ⊎_elim, arith}
use Rattle.std.specs.Prelude.{◌==◌, nat_lt}
use Rattle.std.proofs.lemmas.Bool.{cases_lt, eqb-true, eqb-false, eq-eqb, ne_eqb, ltb-true, lt-ltb, not-true, not_from_false}
use Rattle.ring_model.specs.shared.Places.{place_next}
use Rattle.ring_laws.specs.Places.{same_item, next_place, lap}

-- two tests that hold together are one
pub same_truth : (a b : Bool) → (a ≡ true → b ≡ true) → (b ≡ true → a ≡ true) → a ≡ b
same_truth true true f g = refl
same_truth true false f g = sym (f refl)
same_truth false true f g = g refl
same_truth false false f g = refl

-- the second test matters where the first holds alone
pub and_same : (a b c d : Bool) → a ≡ b → (b ≡ true → c ≡ d) → (a && c) ≡ (b && d)
and_same a true c d e f = ap (λ (x : Bool). x && c) e ∙ ap (λ (x : Bool). true && x) (f refl)
and_same a false c d e f = ap (λ (x : Bool). x && c) e

-- the place after the last item is not that of the first one out exactly where there is room for one more
pub room_told : (n p d : ℕ) → 1 < n → d ≤ p → p < d + n → not (place_next n (p % n) == (d % n)) ≡ nat_lt (p - d) (n - 1)
room_told n p d some le lt = let after : place_next n (p % n) ≡ (p + 1) % n = next_place n p some in
    rw after (same_truth (not (((p + 1) % n) == (d % n))) (nat_lt (p - d) (n - 1))
    (λ e. let ne : ((p + 1) % n) ≢ (d % n) = eqb-false ((p + 1) % n) (d % n) (not-true (((p + 1) % n) == (d % n)) e) in
    ⊎_elim (λ less. lt-ltb (p - d) (n - 1) less) (λ full. let whole : p + 1 ≡ d + n = omega arith in absurd (ne (ap (λ (k : ℕ). k % n) whole ∙ lap n d))) (cases_lt (p - d) (n - 1)))
    (λ e. let less = ltb-true (p - d) (n - 1) e in
    not_from_false (((p + 1) % n) == (d % n)) (ne_eqb ((p + 1) % n) (d % n) (λ same. let one = same_item d (p + 1) n (omega arith) (omega arith) (sym same) in absurd (omega arith)))))

-- two items less than a lap apart lie at one place exactly where they are one
pub same_told : (n a b : ℕ) → a ≤ b → b < a + n → ((a % n) == (b % n)) ≡ (a == b)
same_told n a b le lt = same_truth ((a % n) == (b % n)) (a == b)
    (λ e. eq-eqb a b (same_item a b n le lt (eqb-true (a % n) (b % n) e)))
    (λ e. eq-eqb (a % n) (b % n) (ap (λ (k : ℕ). k % n) (eqb-true a b e)))

pub more_told : (a b : ℕ) → a ≤ b → not (a == b) ≡ nat_lt a b
more_told a b le = same_truth (not (a == b)) (nat_lt a b)
    (λ e. let ne = eqb-false a b (not-true (a == b) e) in lt-ltb a b (omega arith))
    (λ e. let less = ltb-true a b e in not_from_false (a == b) (ne_eqb a b (λ same. absurd (omega arith))))

pub left_told : (n a b : ℕ) → a ≤ b → b < a + n → not ((a % n) == (b % n)) ≡ nat_lt a b
left_told n a b le lt = ap not (same_told n a b le lt) ∙ more_told a b le
