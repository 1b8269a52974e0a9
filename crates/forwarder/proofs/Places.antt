-- The places of a flow's frames, one frame more.
use Rattle.std.proofs.Common.{◌≡◌, ◌≢◌, ◌∙◌, ℕ, ◌+◌, ◌<◌, ◌==◌, List, [], ◌∷◌, ◌++◌, refl, ap, sym, cond, length, get_or, zero, suc, Bool, true, false, arith, rules, map, set, inl, inr}
use Rattle.std.proofs.lemmas.List.{append-nil, get_or-set_other}
use Rattle.std.proofs.lemmas.Grind.{get_or-set_at}
use Rattle.std.proofs.lemmas.Bool.{cases_eq}
use Rattle.std.proofs.lemmas.Bool.Decides.{nat_tests}
use Rattle.wire_script.specs.Frame.{Frame}
use Rattle.forwarder.specs.Flows.{flow_of, places_from, places_of}

places-snoc : (pairs flow k : ℕ) (xs : List Frame) (f : Frame)
    → places_from pairs flow k (xs ++ f ∷ []) ≡ places_from pairs flow k xs ++ cond (flow_of pairs f == flow) ((k + length xs) ∷ []) []
places-snoc pairs flow k [] f = by-case (flow_of pairs f == flow)
  where
    by-case : (b : Bool) → cond b (k ∷ []) [] ≡ cond b ((k + 0) ∷ []) []
    by-case true = ap (λ n. n ∷ []) (omega arith)
    by-case false = refl
places-snoc pairs flow k (x ∷ xs) f = further (flow_of pairs x == flow) k (k + 1 + length xs) _ _ (omega arith) (places-snoc pairs flow (k + 1) xs f)
  where
    further : (b : Bool) (at last : ℕ) (all front : List ℕ) → last ≡ k + length (x ∷ xs) → all ≡ front ++ cond (flow_of pairs f == flow) (last ∷ []) []
        → cond b (at ∷ all) all ≡ cond b (at ∷ front) front ++ cond (flow_of pairs f == flow) ((k + length (x ∷ xs)) ∷ []) []
    further true at last all front same later = ap (λ l. at ∷ l) (later ∙ ap (λ n. front ++ cond (flow_of pairs f == flow) (n ∷ []) []) same)
    further false at last all front same later = later ∙ ap (λ n. front ++ cond (flow_of pairs f == flow) (n ∷ []) []) same

-- the places after one frame more: this frame's flow has its place too
pub places-own : (pairs flow : ℕ) (xs : List Frame) (f : Frame) → flow_of pairs f ≡ flow → places_of pairs flow (xs ++ f ∷ []) ≡ places_of pairs flow xs ++ length xs ∷ []
places-own pairs flow xs f same = places-snoc pairs flow 0 xs f ∙ ap (λ n. places_of pairs flow xs ++ cond (flow_of pairs f == flow) (n ∷ []) []) (omega arith)
    ∙ ap (λ b. places_of pairs flow xs ++ cond b (length xs ∷ []) []) (is-true same)
  where
    is-true : flow_of pairs f ≡ flow → (flow_of pairs f == flow) ≡ true
    is-true e = search (rules, nat_tests)

-- and another flow has the places that it had
pub places-other : (pairs flow : ℕ) (xs : List Frame) (f : Frame) → flow_of pairs f ≢ flow → places_of pairs flow (xs ++ f ∷ []) ≡ places_of pairs flow xs
places-other pairs flow xs f other = places-snoc pairs flow 0 xs f ∙ ap (λ b. places_of pairs flow xs ++ cond b ((0 + length xs) ∷ []) []) (is-false other) ∙ append-nil (places_of pairs flow xs)
  where
    is-false : flow_of pairs f ≢ flow → (flow_of pairs f == flow) ≡ false
    is-false e = search (rules, nat_tests)

-- a list whose items show this, whatever stands for a missing one
pub by-map : {A B : Type 0} (f : A → B) (xs : List A) (i : ℕ) (y d : B) → i < length xs → ((e : A) → f (get_or xs i e) ≡ y) → get_or (map f xs) i d ≡ y
by-map f [] i y d low each = absurd (omega (arith, low))
by-map f (x ∷ xs) zero y d low each = each x
by-map f (x ∷ xs) (suc i) y d low each = by-map f xs i y d (omega (arith, low)) each

-- one frame more has its place in the list of its own flow
pub placed : {X : Type 0} (items : X → List ℕ) (pairs n own : ℕ) (hands : List X) (more : X) (xs : List Frame) (f : Frame)
    → flow_of pairs f ≡ own → own < n → length hands ≡ n
    → ((d : X) → items more ≡ items (get_or hands own d) ++ length xs ∷ [])
    → ((flow : ℕ) (d : X) → flow < n → items (get_or hands flow d) ≡ places_of pairs flow xs)
    → (flow : ℕ) (d : X) → flow < n → items (get_or (set hands own more) flow d) ≡ places_of pairs flow (xs ++ f ∷ [])
placed items pairs n own hands more xs f is few many grown was flow d low = elim (cases_eq flow own) [
  | inl same ↦ ap items (get_or-set_at hands own flow more d same (omega (arith, few, many))) ∙ grown d ∙ ap (λ l. l ++ length xs ∷ []) (was own d few)
      ∙ sym (places-own pairs own xs f is) ∙ ap (λ i. places_of pairs i (xs ++ f ∷ [])) (sym same)
  | inr other ↦ ap items (get_or-set_other hands own flow more d other) ∙ was flow d low ∙ sym (places-other pairs flow xs f (λ e. other (sym e ∙ is)))
]
