-- Lists that are beginnings of others, as either grows by one.
use Rattle.std.proofs.Common.{◌≡◌, ◌⊎◌, inl, inr, ⊎_elim, ℕ, zero, suc, ◌+◌, ◌<◌, ◌≤◌, List, [], ◌∷◌, ◌++◌, map, length, Option, Some, option_map, sym, refl, ap, ◌∙◌, subst, arith, append_assoc, append-nil, length-append}
use Rattle.std.specs.Prelude.{slice_get, slice_index}
use Rattle.std.proofs.lemmas.Option.{same_Some, none-some, slice_get-get_or, slice_get_within, slice_get-map, get_or_from_slice_get}
use Rattle.std.proofs.lemmas.List.{length-map, map-append}
use Rattle.ring_model.specs.shared.Lists.{IsBeginning}
use Rattle.ring_model.specs.shared.Segments.{Segment, number_of_segment}

module _ {X : Type 0} where
  pub same_head : (x y : X) (xs ys : List X) → x ∷ xs ≡ y ∷ ys → x ≡ y
  same_head x y xs ys e = cc

  pub same_tail : (x y : X) (xs ys : List X) → x ∷ xs ≡ y ∷ ys → xs ≡ ys
  same_tail x y xs ys e = cc

  pub beginning-nil : (xs : List X) → IsBeginning [] xs
  beginning-nil xs = (xs, refl)

  pub beginning-refl : (xs : List X) → IsBeginning xs xs
  beginning-refl xs = ([], append-nil xs)

  pub beginning-trans : (xs ys zs : List X) → IsBeginning xs ys → IsBeginning ys zs → IsBeginning xs zs
  beginning-trans xs ys zs a b = (a.0 ++ b.0, sym (append_assoc xs a.0 b.0) ∙ ap (λ (l : List X). l ++ b.0) a.1 ∙ b.1)

  pub beginning-append : (xs ys zs : List X) → IsBeginning xs ys → IsBeginning xs (ys ++ zs)
  beginning-append xs ys zs b = (b.0 ++ zs, sym (append_assoc xs b.0 zs) ∙ ap (λ (l : List X). l ++ zs) b.1)

  pub beginning-length : (xs ys : List X) → IsBeginning xs ys → length xs ≤ length ys
  beginning-length xs ys b = let e : length xs + length b.0 ≡ length ys = sym (length-append xs b.0) ∙ ap length b.1 in omega arith

  -- one more of those that follow
  pub beginning-snoc : (xs ys : List X) (x : X) → IsBeginning xs ys → slice_get ys (length xs) ≡ Some x → IsBeginning (xs ++ x ∷ []) ys
  beginning-snoc [] [] x b e = absurd (none-some x e)
  beginning-snoc [] (y ∷ ys) x b e = (ys, ap (λ (z : X). z ∷ ys) (sym (same_Some y x e)))
  beginning-snoc (z ∷ xs) [] x b e = absurd (none-some x e)
  beginning-snoc (z ∷ xs) (y ∷ ys) x b e = let t = beginning-snoc xs ys x (b.0, same_tail z y (xs ++ b.0) ys b.1) e in
      (t.0, ap (λ (l : List X). z ∷ l) t.1 ∙ ap (λ (w : X). w ∷ ys) (same_head z y (xs ++ b.0) ys b.1))

  pub slice_get-front : (xs ys : List X) (k : ℕ) → k < length xs → slice_get (xs ++ ys) k ≡ slice_get xs k
  slice_get-front [] ys k h = absurd (omega arith)
  slice_get-front (x ∷ xs) ys zero h = refl
  slice_get-front (x ∷ xs) ys (suc k) h = slice_get-front xs ys k (omega arith)

  -- what lies at a place of the beginning lies there in the whole
  pub beginning_at : (xs ys : List X) (k : ℕ) (x : X) → IsBeginning xs ys → slice_get xs k ≡ Some x → slice_get ys k ≡ Some x
  beginning_at xs ys k x b e = ap (λ (l : List X). slice_get l k) (sym b.1) ∙ slice_get-front xs b.0 k (slice_get_within xs k x e) ∙ e

  -- an element of a list with one more is an element of the list, or the last
  pub slice_get-snoc : (xs : List X) (y x : X) (k : ℕ) → slice_get (xs ++ y ∷ []) k ≡ Some x → ((k < length xs) × (slice_get xs k ≡ Some x)) ⊎ ((k ≡ length xs) × (y ≡ x))
  slice_get-snoc [] y x zero e = inr (refl, same_Some y x e)
  slice_get-snoc [] y x (suc k) e = absurd (none-some x e)
  slice_get-snoc (z ∷ xs) y x zero e = inl (omega arith, e)
  slice_get-snoc (z ∷ xs) y x (suc k) e = ⊎_elim (λ t. let h = t.0 in inl (omega arith, t.1)) (λ t. inr (ap suc t.0, t.1)) (slice_get-snoc xs y x k e)

-- the next number that follows
pub next_number : {X : Type 0} (xs : List X) (ys : List ℕ) → length xs < length ys → slice_get ys (length xs) ≡ Some (slice_index ys (length xs))
next_number xs ys h = slice_get-get_or ys (length xs) 0 h

-- one more segment, stored in the buffer that is next
pub numbers-snoc : {Payload : Type 0} (ss : List (Segment Payload)) (posted : List ℕ) (s : Segment Payload) → IsBeginning (map number_of_segment ss) posted → length ss < length posted
    → s.number ≡ slice_index posted (length ss) → IsBeginning (map number_of_segment (ss ++ s ∷ [])) posted
numbers-snoc {Payload} ss posted s b h e = let number : Segment Payload → ℕ = λ t. t.number in
    let same : length (map number ss) ≡ length ss = length-map ss number in
    rw (map-append number ss (s ∷ [])) (beginning-snoc (map number ss) posted s.number b (subst (λ (j : ℕ). slice_get posted j ≡ Some s.number) (sym same) (next_number ss posted h ∙ ap Some (sym e))))

-- the number of a stored segment is the one posted as the same item
pub number_at : {Payload : Type 0} (ss : List (Segment Payload)) (posted : List ℕ) (k : ℕ) (s : Segment Payload) → IsBeginning (map number_of_segment ss) posted → slice_get ss k ≡ Some s
    → slice_get posted k ≡ Some s.number
number_at {Payload} ss posted k s b e = let number : Segment Payload → ℕ = λ t. t.number in
    beginning_at (map number ss) posted k s.number b (slice_get-map number ss k ∙ ap (λ (o : Option (Segment Payload)). option_map number o) e)

pub index_at : {Payload : Type 0} (ss : List (Segment Payload)) (posted : List ℕ) (k : ℕ) (s : Segment Payload) → IsBeginning (map number_of_segment ss) posted → slice_get ss k ≡ Some s
    → slice_index posted k ≡ s.number
index_at ss posted k s b e = get_or_from_slice_get posted k s.number 0 (number_at ss posted k s b e)
