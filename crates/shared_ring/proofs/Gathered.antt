-- What lies at numbered places, put together in their order: a place emptied leaves the rest, and those of a window that wraps are those of its items.
use Rattle.std.proofs.Common.{◌≡◌, ℕ, zero, suc, ◌+◌, ◌-◌, ◌%◌, ◌<◌, ◌≤◌, ⊎_elim, Bool, true, false, ◌&&◌, if◌then◌else◌, List, [], ◌∷◌, ◌++◌, length, map, drop, Option, Some, None, IsPermutation, sym, refl, ap, ◌∙◌, subst, arith, append-nil, append_assoc, mod-lt}
use Rattle.std.specs.Prelude.{slice_get, ◌==◌}
use Rattle.std.proofs.lemmas.Bool.{cases_Bool, cases_eq, cases_lt, and_parts, and_from, both_ways, eqb-true, eq-eqb, ne_eqb}
use Rattle.std.proofs.lemmas.List.{length-drop}
use Rattle.std.proofs.lemmas.List.Sorted.{IsPermutation-refl, IsPermutation-sym, IsPermutation-trans, IsPermutation-append_left, IsPermutation-append_right, IsPermutation-append_comm}
use Rattle.buffer_pool.specs.Buffer.{Buffer}
use Rattle.ring_laws.specs.Places.{apart}
use Rattle.shared_ring.specs.Meeting.{number_at, numbers_at, kept_upto}

-- what f has at the first n places
abbrev pub gather : (ℕ → List ℕ) → ℕ → List ℕ
gather f zero = []
gather f (suc n) = gather f n ++ f n

pub gather-same : (n : ℕ) (f g : ℕ → List ℕ) → ((p : ℕ) → p < n → f p ≡ g p) → gather f n ≡ gather g n
gather-same zero f g h = refl
gather-same (suc n) f g h = ap (λ (xs : List ℕ). xs ++ f n) (gather-same n f g (λ p b. h p (omega arith))) ∙ ap (λ (xs : List ℕ). gather g n ++ xs) (h n (omega arith))

pub gather-none : (n : ℕ) (f : ℕ → List ℕ) → ((p : ℕ) → p < n → f p ≡ []) → gather f n ≡ []
gather-none zero f h = refl
gather-none (suc n) f h = ap (λ (xs : List ℕ). xs ++ f n) (gather-none n f (λ p b. h p (omega arith))) ∙ h n (omega arith)

-- the first place stands in front
pub gather-front : (n : ℕ) (f : ℕ → List ℕ) → gather f (suc n) ≡ f 0 ++ gather (λ k. f (suc k)) n
gather-front zero f = sym (append-nil (f 0))
gather-front (suc n) f = ap (λ (xs : List ℕ). xs ++ f (suc n)) (gather-front n f) ∙ append_assoc (f 0) (gather (λ k. f (suc k)) n) (f (suc n))

last-two : (xs ys zs : List ℕ) → IsPermutation ((xs ++ ys) ++ zs) ((xs ++ zs) ++ ys)
last-two xs ys zs = subst (λ (l : List ℕ). IsPermutation l ((xs ++ zs) ++ ys)) (sym (append_assoc xs ys zs))
    (subst (λ (r : List ℕ). IsPermutation (xs ++ (ys ++ zs)) r) (sym (append_assoc xs zs ys))
    (IsPermutation-append_right xs (ys ++ zs) (zs ++ ys) (IsPermutation-append_comm ys zs)))

-- one place that is emptied goes to the back
pub gather-emptied : (n p : ℕ) (f g : ℕ → List ℕ) → p < n → g p ≡ [] → ((j : ℕ) → ¬ (j ≡ p) → g j ≡ f j) → IsPermutation (gather f n) (gather g n ++ f p)
gather-emptied zero p f g below none rest = absurd (omega arith)
gather-emptied (suc n) p f g below none rest = ⊎_elim last (λ ne. before ne (gather-emptied n p f g (omega arith) none rest)) (cases_eq p n)
  where
    last : p ≡ n → IsPermutation (gather f n ++ f n) ((gather g n ++ g n) ++ f p)
    last e = subst (λ (xs : List ℕ). IsPermutation (gather f n ++ f n) xs)
        (ap (λ (xs : List ℕ). xs ++ f n) (sym (gather-same n g f (λ j b. rest j (λ x. omega arith))))
        ∙ ap (λ (xs : List ℕ). xs ++ f n) (sym (append-nil (gather g n)) ∙ ap (λ (xs : List ℕ). gather g n ++ xs) (sym none ∙ ap g e))
        ∙ ap (λ (j : ℕ). (gather g n ++ g n) ++ f j) (sym e))
        (IsPermutation-refl (gather f n ++ f n))

    before : ¬ (p ≡ n) → IsPermutation (gather f n) (gather g n ++ f p) → IsPermutation (gather f n ++ f n) ((gather g n ++ g n) ++ f p)
    before ne h = subst (λ (xs : List ℕ). IsPermutation (gather f n ++ f n) ((gather g n ++ xs) ++ f p)) (sym (rest n (λ e. ne (sym e))))
        (IsPermutation-trans (gather f n ++ f n) ((gather g n ++ f p) ++ f n) ((gather g n ++ f n) ++ f p)
        (IsPermutation-append_left (f n) (gather f n) (gather g n ++ f p) h)
        (last-two (gather g n) (f p) (f n)))

abbrev emptied : (ℕ → List ℕ) → ℕ → ℕ → List ℕ
emptied f p j = if j == p then [] else f j

emptied-here : (f : ℕ → List ℕ) (p : ℕ) → emptied f p p ≡ []
emptied-here f p = ap (λ (b : Bool). if b then [] else f p) (eq-eqb p p refl)

emptied-rest : (f : ℕ → List ℕ) (p j : ℕ) → ¬ (j ≡ p) → emptied f p j ≡ f j
emptied-rest f p j ne = ap (λ (b : Bool). if b then [] else f j) (ne_eqb j p ne)

-- what lies at the places of items r, r + 1 .. of a window that is shorter than n
module _ (n r : ℕ) (g : ℕ → List ℕ) where
  pub gather-window : (count : ℕ) (f : ℕ → List ℕ) → count < n → ((k : ℕ) → k < count → f ((r + k) % n) ≡ g k) → ((p : ℕ) → p < n → ((k : ℕ) → k < count → ¬ ((r + k) % n ≡ p)) → f p ≡ []) → IsPermutation (gather f n) (gather g count)
  gather-window zero f few at rest = subst (λ (xs : List ℕ). IsPermutation xs []) (sym (gather-none n f (λ p b. rest p b (λ k bad e. absurd (omega arith))))) (IsPermutation-refl [])
  gather-window (suc count) f few at rest = let p : ℕ = (r + count) % n in
      IsPermutation-trans (gather f n) (gather (emptied f p) n ++ f p) (gather g count ++ g count)
      (gather-emptied n p f (emptied f p) (mod-lt (r + count) (omega arith)) (emptied-here f p) (emptied-rest f p))
      (subst (λ (xs : List ℕ). IsPermutation (gather (emptied f p) n ++ f p) (gather g count ++ xs)) (at count (omega arith))
      (IsPermutation-append_left (f p) (gather (emptied f p) n) (gather g count) (gather-window count (emptied f p) (omega arith)
      (λ k below. emptied-rest f p ((r + k) % n) (apart r (r + n) n (r + k) (r + count) (omega arith) (omega arith) (omega arith) (omega arith) (omega arith) (λ e. omega arith)) ∙ at k (omega arith))
      (λ j below none. ⊎_elim (λ e. ap (emptied f p) e ∙ emptied-here f p)
      (λ ne. emptied-rest f p j ne ∙ rest j below (λ k few e. ⊎_elim (λ lt. none k lt e) (λ le. let same : k ≡ count = omega arith in ne (sym e ∙ ap (λ (i : ℕ). (r + i) % n) same)) (cases_lt k count)))
      (cases_eq j p)))))

-- what the items of a list have, each what its place says
pub gather-list : {X : Type 0} (number : X → ℕ) (xs : List X) (f : ℕ → List ℕ) → ((k : ℕ) (x : X) → slice_get xs k ≡ Some x → f k ≡ number x ∷ []) → gather f (length xs) ≡ map number xs
gather-list number [] f at = refl
gather-list number (x ∷ xs) f at = gather-front (length xs) f
    ∙ ap (λ (ys : List ℕ). ys ++ gather (λ k. f (suc k)) (length xs)) (at 0 x refl)
    ∙ ap (λ (ys : List ℕ). number x ∷ ys) (gather-list number xs (λ k. f (suc k)) (λ k y e. at (suc k) y e))

pub some-at : {X : Type 0} (xs : List X) (k : ℕ) → k < length xs → (x : X) × (slice_get xs k ≡ Some x)
some-at [] k h = absurd (omega arith)
some-at (x ∷ xs) zero h = (x, refl)
some-at (x ∷ xs) (suc k) h = some-at xs k (omega arith)

slice_get-drop : {X : Type 0} (r : ℕ) (xs : List X) (k : ℕ) → slice_get (drop r xs) k ≡ slice_get xs (r + k)
slice_get-drop zero xs k = ap (slice_get xs) (let e : k ≡ 0 + k = omega arith in e)
slice_get-drop (suc r) [] k = refl
slice_get-drop (suc r) (x ∷ xs) k = slice_get-drop r xs k ∙ ap (slice_get (x ∷ xs)) (let e : suc (r + k) ≡ suc r + k = omega arith in e)

numbers_at-append : (xs ys : List (Option Buffer)) → numbers_at (xs ++ ys) ≡ numbers_at xs ++ numbers_at ys
numbers_at-append [] ys = refl
numbers_at-append (x ∷ xs) ys = ap (λ (zs : List ℕ). number_at x ++ zs) (numbers_at-append xs ys) ∙ sym (append_assoc (number_at x) (numbers_at xs) (numbers_at ys))

numbers-gather : (f : ℕ → Option Buffer) (n : ℕ) → numbers_at (kept_upto f n) ≡ gather (λ p. number_at (f p)) n
numbers-gather f zero = refl
numbers-gather f (suc n) = numbers_at-append (kept_upto f n) (f n ∷ []) ∙ ap (λ (xs : List ℕ). numbers_at (kept_upto f n) ++ xs) (append-nil (number_at (f n))) ∙ ap (λ (xs : List ℕ). xs ++ number_at (f n)) (numbers-gather f n)

abbrev number_in : {X : Type 0} → (X → ℕ) → Option X → List ℕ
number_in number None = []
number_in number (Some x) = number x ∷ []

-- those of all items from the r-th on
abbrev pub numbers_from : {X : Type 0} → (X → ℕ) → ℕ → List X → List ℕ
numbers_from number r xs = map number (drop r xs)

-- The places of a ring, of which f tells what comes back: each item that is out and not held from r on, and nothing else
module _ {Posted : Type 0} (number : Posted → ℕ) (posted : List Posted) (r n s : ℕ) (held : Bool) (f : ℕ → Option Buffer) (back : r ≤ length posted) (few : length posted < r + n)
    (item : (k : ℕ) → r ≤ k → k < length posted → (held ≡ true → ¬ (k ≡ s)) → (x : Posted) → slice_get posted k ≡ Some x → number_at (f (k % n)) ≡ number x ∷ [])
    (gone : held ≡ true → number_at (f (s % n)) ≡ []) (home : (p : ℕ) → p < n → ((k : ℕ) → r ≤ k → k < length posted → ¬ (k % n ≡ p)) → number_at (f p) ≡ [])
    (hold : List ℕ) (idle : held ≡ false → hold ≡ []) (busy : held ≡ true → (x : Posted) → slice_get posted s ≡ Some x → hold ≡ number x ∷ []) (within : held ≡ true → (r ≤ s) × (s < length posted)) where
  -- all that is out, and what of it is not held
  abbrev full : ℕ → List ℕ
  full k = number_in number (slice_get posted (r + k))

  abbrev free : ℕ → List ℕ
  free k = if held && ((r + k) == s) then [] else full k

  abbrev count : ℕ
  count = length posted - r

  full-out : gather full count ≡ map number (drop r posted)
  full-out = let l = length-drop r posted in ap (gather full) (sym l)
      ∙ gather-list number (drop r posted) full (λ k x e. ap (number_in number) (sym (slice_get-drop r posted k) ∙ e))

  free-held : (k : ℕ) → held ≡ true → r + k ≡ s → free k ≡ []
  free-held k h e = ap (λ (b : Bool). if b then [] else full k) (and_from held ((r + k) == s) h (eq-eqb (r + k) s e))

  free-else : (k : ℕ) → (held ≡ true → ¬ (r + k ≡ s)) → free k ≡ full k
  free-else k ne = pick (held && ((r + k) == s)) refl
    where
      pick : (b : Bool) → (held && ((r + k) == s)) ≡ b → (if b then [] else full k) ≡ full k
      pick true e = let t = and_parts held ((r + k) == s) e in absurd (ne t.0 (eqb-true (r + k) s t.1))
      pick false e = refl

  free-at : (k : ℕ) → k < count → number_at (f ((r + k) % n)) ≡ free k
  free-at k below = ⊎_elim
      (λ b. let t = and_parts held ((r + k) == s) b in let e = eqb-true (r + k) s t.1 in ap (λ (j : ℕ). number_at (f (j % n))) e ∙ gone t.0 ∙ sym (free-held k t.0 e))
      (λ b. let ne : held ≡ true → ¬ (r + k ≡ s) = (λ h e. both_ways (held && ((r + k) == s)) b (and_from held ((r + k) == s) h (eq-eqb (r + k) s e))) in let x = some-at posted (r + k) (omega arith) in
      item (r + k) (omega arith) (omega arith) ne x.0 x.1 ∙ sym (ap (number_in number) x.1) ∙ sym (free-else k ne))
      (cases_Bool (held && ((r + k) == s)))

  places-free : IsPermutation (numbers_at (kept_upto f n)) (gather free count)
  places-free = subst (λ (xs : List ℕ). IsPermutation xs (gather free count)) (sym (numbers-gather f n))
      (gather-window n r free count (λ p. number_at (f p)) (omega arith) free-at
      (λ p below none. home p below (λ k first past e. none (k - r) (omega arith) (ap (λ (j : ℕ). j % n) (let same : r + (k - r) ≡ k = omega arith in same) ∙ e))))

  full-free : IsPermutation (gather full count) (gather free count ++ hold)
  full-free = ⊎_elim
      (λ h. let w = within h in let x = some-at posted s w.1 in let same : r + (s - r) ≡ s = omega arith in
      subst (λ (xs : List ℕ). IsPermutation (gather full count) (gather free count ++ xs)) (ap (λ (j : ℕ). number_in number (slice_get posted j)) same ∙ ap (number_in number) x.1 ∙ sym (busy h x.0 x.1))
      (gather-emptied count (s - r) full free (omega arith) (free-held (s - r) h same) (λ j ne. free-else j (λ t e. ne (omega arith)))))
      (λ no. subst (λ (xs : List ℕ). IsPermutation (gather full count) xs)
      (gather-same count full free (λ j below. sym (free-else j (λ t e. both_ways held no t))) ∙ sym (append-nil (gather free count)) ∙ ap (λ (xs : List ℕ). gather free count ++ xs) (sym (idle no)))
      (IsPermutation-refl (gather full count)))
      (cases_Bool held)

  pub all-back : IsPermutation (numbers_from number r posted) (numbers_at (kept_upto f n) ++ hold)
  all-back = subst (λ (xs : List ℕ). IsPermutation xs (numbers_at (kept_upto f n) ++ hold)) full-out
      (IsPermutation-trans (gather full count) (gather free count ++ hold) (numbers_at (kept_upto f n) ++ hold) full-free
      (IsPermutation-append_left hold (gather free count) (numbers_at (kept_upto f n)) (IsPermutation-sym (numbers_at (kept_upto f n)) (gather free count) places-free)))
