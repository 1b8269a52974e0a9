-- Words that are read one after another, each as what it tells.
use Rattle.std.proofs.Common.{◌≡◌, ◌∙◌, ap, ap₂, subst, sym, refl, arith, ℕ, zero, suc, ◌+◌, ◌<◌, ◌≤◌, List, [], ◌∷◌, ◌++◌, Option, Some, None, drop, get_or, length, map, option_map, slice_index_or, take, unwrap_or}
use Rattle.std.specs.Prelude.{All, IsSomeAnd}
use Rattle.std.specs.Borrow.{Bor}
use Rattle.std.specs.List.{AllZip}
use Rattle.std.proofs.lemmas.List.{take_all, take_more}
use Rattle.std.proofs.lemmas.List.Elements.{All-head, All-tail}
use Rattle.clap.specs.Words.{Text}
use Rattle.command_line.specs.FileWords.{AreTold, file_values}

-- what is there has what holds of it, and then it is there
pub is-some : {X : Type 0} (P : X → Type 0) (o : Option X) (x : X) → o ≡ Some x → IsSomeAnd o P → P x
is-some {X} P o x is holds = subst (λ (p : Option X). IsSomeAnd p P) is holds

pub is-none : {X : Type 0} (P : X → Type 0) (o : Option X) → o ≡ None → IsSomeAnd o P → ⊥
is-none {X} P o is holds = subst (λ (p : Option X). IsSomeAnd p P) is holds

-- words of these tell these, if the word of each does
pub each-told : {X : Type 0} (told : Bor Text → Option X → Type 0) (word_of : X → Text) (P : X → Type 0) (xs : List X) → All P xs
    → ((word : Bor Text) (found : Option X) (x : X) → P x → word.now ≡ word_of x → told word found → found ≡ Some x) → AreTold told (map word_of xs) xs
each-told told word_of P [] are each = tt
each-told told word_of P (x ∷ xs) are each =
    (λ word found same is. each word found x (All-head P x xs are) same is, each-told told word_of P xs (All-tail P x xs are) each)

-- each of these words tells one of these
abbrev pub Tell : {X : Type 0} → (Bor Text → Option X → Type 0) → List (Bor Text) → List X → Type 0
Tell {X} told words xs = AllZip (λ word x. (found : Option X) → told word found → found ≡ Some x) words xs

words-tell : {X : Type 0} (told : Bor Text → Option X → Type 0) (words : List (Bor Text)) (texts : List Text) (xs : List X) → map (λ word. word.now) words ≡ texts
    → AreTold told texts xs → Tell told words xs
words-tell told [] [] [] same are = tt
words-tell told [] [] (x ∷ xs) same are = absurd are
words-tell told [] (t ∷ ts) xs same are = cc same
words-tell told (w ∷ ws) [] xs same are = cc same
words-tell told (w ∷ ws) (t ∷ ts) [] same are = absurd are
words-tell told (w ∷ ws) (t ∷ ts) (x ∷ xs) same are =
    (λ found is. are.0 w found (ap (λ (l : List Text). slice_index_or l 0 t) same) is, words-tell told ws ts xs (ap (drop 1) same) are.1)

abbrev Words : Type 0
Words = Bor (List (Bor Text))

-- the words of an option, if it stands
words-said : (o : Option Words) (none : Words) (texts : List Text) → none.now ≡ [] → option_map (λ s. map (λ word. word.now) s.now) o ≡ file_values texts
    → map (λ word. word.now) (unwrap_or o none).now ≡ texts
words-said None none [] empty is = ap (λ (l : List (Bor Text)). map (λ word. word.now) l) empty
words-said None none (t ∷ ts) empty is = cc is
words-said (Some s) none [] empty is = cc is
words-said (Some s) none (t ∷ ts) empty is = ap (λ (l : Option (List Text)). unwrap_or l []) is

-- so these tell what they should
pub said-tell : {X : Type 0} (told : Bor Text → Option X → Type 0) (o : Option Words) (none words : Words) (texts : List Text) (xs : List X) → words ≡ unwrap_or o none
    → none.now ≡ [] → option_map (λ s. map (λ word. word.now) s.now) o ≡ file_values texts → AreTold told texts xs → Tell told words.now xs
said-tell told o none words texts xs same empty is are =
    words-tell told words.now texts xs (ap (λ (ws : Words). map (λ word. word.now) ws.now) same ∙ words-said o none texts empty is) are

-- the one that a word tells
tells-at : {X : Type 0} (told : Bor Text → Option X → Type 0) (words : List (Bor Text)) (xs : List X) (k : ℕ) (d : Bor Text) → Tell told words xs → k < length words
    → (x : X) × (x ≡ get_or xs k x) × (k < length xs) × ((found : Option X) → told (get_or words k d) found → found ≡ Some x)
tells-at told [] xs k d tell low = absurd (omega (arith, low))
tells-at told (w ∷ ws) [] k d tell low = absurd tell
tells-at told (w ∷ ws) (x ∷ xs) zero d tell low = (x, refl, omega arith, tell.0)
tells-at told (w ∷ ws) (x ∷ xs) (suc k) d tell low =
    let later = tells-at told ws xs k d tell.1 (omega (arith, low)) in (later.0, later.1, omega (arith, later.2), later.3)

-- so each tells one
pub no-word : {X : Type 0} (told : Bor Text → Option X → Type 0) (words : List (Bor Text)) (xs : List X) (k : ℕ) (d : Bor Text) → Tell told words xs → k < length words
    → told (get_or words k d) None → ⊥
no-word {X} told words xs k d tell low is = let at = tells-at told words xs k d tell low in let none : None ≡ Some at.0 = at.3 None is in cc none

-- and where one is read, one more was read
pub one-more : {X : Type 0} (told : Bor Text → Option X → Type 0) (words : List (Bor Text)) (xs items : List X) (k : ℕ) (d : Bor Text) (read : X) → Tell told words xs
    → k < length words → items ≡ take k xs → told (get_or words k d) (Some read) → items ++ read ∷ [] ≡ take (k + 1) xs
one-more {X} told words xs items k d read tell low before is =
    let at = tells-at told words xs k d tell low in
    ap₂ (λ (l : List X) (y : X). l ++ y ∷ []) before (ap (λ (o : Option X). unwrap_or o read) (at.3 (Some read) is) ∙ at.1) ∙ sym (take_more xs k at.0 at.2)

as-long : {X : Type 0} (told : Bor Text → Option X → Type 0) (words : List (Bor Text)) (xs : List X) → Tell told words xs → length words ≡ length xs
as-long told [] [] tell = refl
as-long told [] (x ∷ xs) tell = absurd tell
as-long told (w ∷ ws) [] tell = absurd tell
as-long told (w ∷ ws) (x ∷ xs) tell = ap suc (as-long told ws xs tell.1)

-- at last all of them
pub all-said : {X : Type 0} (told : Bor Text → Option X → Type 0) (words : List (Bor Text)) (xs items : List X) (k : ℕ) → Tell told words xs → length words ≤ k
    → items ≡ take k xs → items ≡ xs
all-said told words xs items k tell all before = let size = as-long told words xs tell in before ∙ take_all k xs (omega (arith, size, all))
