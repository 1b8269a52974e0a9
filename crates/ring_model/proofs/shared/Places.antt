-- Items that lie round a ring of n places: item k lies at k % n, and two items less than n apart lie at two places.
use Rattle.std.proofs.Common.{◌≡◌, ◌≢◌, ℕ, zero, suc, ◌+◌, ◌-◌, ◌*◌, ◌/◌, ◌%◌, ◌<◌, ◌≤◌, Bool, true, false, List, [], ◌∷◌, length, Some, sym, refl, ap, ◌∙◌, ⊎_elim, subst, arith, if◌then◌else◌, mul-le-mul_right, suc-mul, lt_of_not-le, div-add-mod', mod-lt, mod-eq_of_lt, get_or-set_same, get_or-set_other}
use Rattle.std.specs.Prelude.{slice_get, slice_index, slice_set, ◌==◌}
use Rattle.std.proofs.lemmas.Bool.{cases_eq, cases_lt, eqb-true, eqb-false}
use Rattle.std.proofs.Math.Nat.{mod-add-mod, add-mod_right, mod_self}
use native.Mathlib.Decide.{dec_le}
use Rattle.ring_model.specs.shared.Lists.{EachItem}
use Rattle.ring_model.specs.kept.Writes.{Writes}

further : (x y n : ℕ) → x < y → x * n + n ≤ y * n
further x y n h = let a : suc x * n ≤ y * n = mul-le-mul_right n h in omega (arith, suc-mul x n)

-- with x laps to a, and y to b
one_lap : (a b x y n r : ℕ) → b < a + n → x + r ≡ a → y + r ≡ b → a ≤ b → x + n ≤ y → a ≡ b
one_lap a b x y n r lt p q le m = absurd (omega arith)

no_lap : (a b x y r : ℕ) → x + r ≡ a → y + r ≡ b → a ≤ b → y ≤ x → a ≡ b
no_lap a b x y r p q le m = omega arith

laps : (a b n : ℕ) → a ≤ b → b < a + n → a % n ≡ b % n → Dec (b / n ≤ a / n) → a ≡ b
laps a b n le lt e (yes d) = no_lap a b (a / n * n) (b / n * n) (b % n) (ap (λ (k : ℕ). a / n * n + k) (sym e) ∙ div-add-mod' a n) (div-add-mod' b n) le (mul-le-mul_right n d)
laps a b n le lt e (no d) = one_lap a b (a / n * n) (b / n * n) n (b % n) lt (ap (λ (k : ℕ). a / n * n + k) (sym e) ∙ div-add-mod' a n) (div-add-mod' b n) le (further (a / n) (b / n) n (lt_of_not-le d))

-- two items less than n apart at one place are one item
pub same_item : (a b n : ℕ) → a ≤ b → b < a + n → a % n ≡ b % n → a ≡ b
same_item a b n le lt e = laps a b n le lt e (dec_le (b / n) (a / n))

-- two items of one window at two counts lie at two places
pub apart : (first past n i k : ℕ) → first ≤ i → i < past → first ≤ k → k < past → past ≤ first + n → i ≢ k → (i % n) ≢ (k % n)
apart first past n i k fi ip fk kp small ne e = ⊎_elim (λ lt. ne (same_item i k n (omega arith) (omega arith) e)) (λ le. ne (sym (same_item k i n le (omega arith) (sym e)))) (cases_lt i k)

turned : (n p a : ℕ) (last : Bool) → 1 < n → a ≡ p % n + 1 → (a == n) ≡ last → (if last then 0 else a) ≡ (p + 1) % n
turned n p a true h e t = let f : (p + 1) % n ≡ a % n = sym (mod-add-mod p n 1) ∙ ap (λ (k : ℕ). k % n) (sym e) in sym (f ∙ ap (λ (k : ℕ). k % n) (eqb-true a n t) ∙ mod_self n)
turned n p a false h e t = let f : (p + 1) % n ≡ a % n = sym (mod-add-mod p n 1) ∙ ap (λ (k : ℕ). k % n) (sym e) in
    let below : p % n < n = mod-lt p (omega arith) in let other : a ≢ n = eqb-false a n t in
    sym (f ∙ mod-eq_of_lt (omega arith))

-- the place after that of item p
pub next_place : (n p : ℕ) → 1 < n → (if (p % n + 1) == n then 0 else (p % n + 1)) ≡ (p + 1) % n
next_place n p h = turned n p (p % n + 1) ((p % n + 1) == n) h refl refl

-- a lap further on is the same place
pub lap : (n p : ℕ) → (p + n) % n ≡ p % n
lap n p = add-mod_right p n

-- with a the place of one item, and b that of an item d further on
ahead_by : (n a b d : ℕ) → a < n → d < n → b ≡ (a + d) % n → (b + n - a) % n ≡ d
ahead_by n a b d an dn e = ⊎_elim
    (λ lt. let f : b ≡ a + d = e ∙ mod-eq_of_lt lt in ap (λ (k : ℕ). k % n) (let g : b + n - a ≡ d + n = omega arith in g) ∙ add-mod_right d n ∙ mod-eq_of_lt dn)
    (λ le. let g : (a + d - n) + n ≡ a + d = omega arith in
    let f : b ≡ a + d - n = e ∙ ap (λ (k : ℕ). k % n) (sym g) ∙ add-mod_right (a + d - n) n ∙ mod-eq_of_lt (omega arith) in
    let i : b + n - a ≡ d = omega arith in ap (λ (k : ℕ). k % n) i ∙ mod-eq_of_lt dn)
    (cases_lt (a + d) n)

-- how far item k is ahead of item s, told from their places
pub ahead : (n s k : ℕ) → 0 < n → s ≤ k → k < s + n → (k % n + n - s % n) % n ≡ k - s
ahead n s k pos le lt = let e : s + (k - s) ≡ k = omega arith in
    ahead_by n (s % n) (k % n) (k - s) (mod-lt s pos) (omega arith) (ap (λ (j : ℕ). j % n) (sym e) ∙ sym (mod-add-mod s n (k - s)))

-- one write at the place of item i, which alone wants something else than before
pub each_item-set : {X : Type 0} (n first past i : ℕ) (before later : ℕ → X) (wanted wanting : ℕ → X) → 0 < n → past ≤ first + n → first ≤ i → i < past
    → Writes n before later (i % n) (wanting i) → ((k : ℕ) → first ≤ k → k < past → k ≢ i → wanting k ≡ wanted k)
    → EachItem n first past before wanted → EachItem n first past later wanting
each_item-set n first past i before later wanted wanting pos small fi ip w same old k fk kp = ⊎_elim
    (λ e. subst (λ (j : ℕ). later (j % n) ≡ wanting j) (sym e) w.here)
    (λ ne. w.rest (k % n) (mod-lt k pos) (apart first past n k i fk kp fi ip small ne) ∙ old k fk kp ∙ sym (same k fk kp ne))
    (cases_eq k i)

-- one more item, written at the place after the last
pub each_item-push : {X : Type 0} (n first past : ℕ) (before later : ℕ → X) (wanted wanting : ℕ → X) → 0 < n → past < first + n
    → Writes n before later (past % n) (wanting past) → ((k : ℕ) → first ≤ k → k < past → wanting k ≡ wanted k) → first ≤ past
    → EachItem n first past before wanted → EachItem n first (past + 1) later wanting
each_item-push n first past before later wanted wanting pos small w same le old k fk kp = ⊎_elim
    (λ e. subst (λ (j : ℕ). later (j % n) ≡ wanting j) (sym e) w.here)
    (λ ne. w.rest (k % n) (mod-lt k pos) (apart first (past + 1) n k past fk kp le (omega arith) (omega arith) ne) ∙ old k fk (omega arith) ∙ sym (same k fk (omega arith)))
    (cases_eq k past)

-- one item fewer at the front, whose place may have been written
pub each_item-drop : {X : Type 0} (n first past : ℕ) (before later : ℕ → X) (wanted : ℕ → X) → 0 < n → past ≤ first + n → first < past
    → ((j : ℕ) → j < n → j ≢ first % n → later j ≡ before j)
    → EachItem n first past before wanted → EachItem n (first + 1) past later wanted
each_item-drop n first past before later wanted pos small lt same old k fk kp =
    same (k % n) (mod-lt k pos) (apart first past n k first (omega arith) kp (omega arith) lt small (λ e. omega arith)) ∙ old k (omega arith) kp

-- the same places, where each item wants what it wanted
pub each_item-same : {X : Type 0} (n first past : ℕ) (found : ℕ → X) (wanted wanting : ℕ → X)
    → ((k : ℕ) → first ≤ k → k < past → wanting k ≡ wanted k) → EachItem n first past found wanted → EachItem n first past found wanting
each_item-same n first past found wanted wanting same old k fk kp = old k fk kp ∙ sym (same k fk kp)

module _ {X : Type 0} where
  slice_get-set_same : (xs : List X) (p : ℕ) (x : X) → p < length xs → slice_get (slice_set xs p x) p ≡ Some x
  slice_get-set_same [] p x h = absurd (omega arith)
  slice_get-set_same (y ∷ ys) zero x h = refl
  slice_get-set_same (y ∷ ys) (suc p) x h = slice_get-set_same ys p x (omega arith)

  pub slice_get-set_other : (xs : List X) (p j : ℕ) (x : X) → j ≢ p → slice_get (slice_set xs p x) j ≡ slice_get xs j
  slice_get-set_other [] p j x ne = refl
  slice_get-set_other (y ∷ ys) zero zero x ne = absurd (ne refl)
  slice_get-set_other (y ∷ ys) zero (suc j) x ne = refl
  slice_get-set_other (y ∷ ys) (suc p) zero x ne = refl
  slice_get-set_other (y ∷ ys) (suc p) (suc j) x ne = slice_get-set_other ys p j x (λ e. ne (ap suc e))

-- what a write to a list is, read by place
pub slice_set-writes : {X : Type 0} (xs : List X) (p : ℕ) (x : X) → p < length xs → Writes (length xs) (slice_get xs) (slice_get (slice_set xs p x)) p (Some x)
slice_set-writes xs p x h = record { here = slice_get-set_same xs p x h; rest = λ j b ne. slice_get-set_other xs p j x ne }

pub slice_index-writes : (xs : List ℕ) (n p x : ℕ) → p < length xs → Writes n (slice_index xs) (slice_index (slice_set xs p x)) p x
slice_index-writes xs n p x h = record { here = get_or-set_same xs p x 0 h; rest = λ j b ne. get_or-set_other xs p j x 0 ne }
