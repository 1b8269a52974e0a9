-- What holds of every chain: from what holds of an unfinished frame as it grows, to the chain that the last segment makes of it.
use Rattle.std.proofs.Common.{◌≡◌, ℕ, zero, suc, ◌<◌, ◌≤◌, Bool, true, false, List, [], ◌∷◌, ◌++◌, length, take, Some, refl, ⊎_elim, subst, arith, if◌then◌else◌, length-append}
use Rattle.std.specs.Prelude.{slice_get}
use Rattle.std.proofs.lemmas.Option.{none-some, same_Some}
use Rattle.limits.specs.declared.profile.TheConstants.{BUFFER_BYTES}
use Rattle.ring_model.specs.shared.Frames.{Piece, unfinished_from, chains_from, chains, Follows, AllFollow, IsChain}
use Rattle.ring_model.proofs.shared.Beginnings.{slice_get-snoc}

module _ {X : Type 0} (carries : X → Piece) where
  -- where what is begun grows by each that stands to it, a chain is what was begun and the one that ends it
  module _ (Stands : List X → X → Type 0) (Begun Whole : List X → Type 0)
      (goes : (rest : List X) (x : X) → (carries x).eop ≡ false → Begun rest → Stands rest x → Begun (rest ++ x ∷ []))
      (ended : (rest : List X) (x : X) → (carries x).eop ≡ true → Begun rest → Stands rest x → Whole (rest ++ x ∷ [])) (nothing : Begun []) where
    -- what is unfinished behind x, and what the chains are from there on
    begun_next : (rest : List X) (x : X) (ends : Bool) → (carries x).eop ≡ ends → Begun rest → Stands rest x → Begun (if ends then [] else rest ++ x ∷ [])
    begun_next rest x true e b s = nothing
    begun_next rest x false e b s = goes rest x e b s

    grown_next : (rest : List X) (x : X) (xs : List X) (ends : Bool) → (carries x).eop ≡ ends → Begun rest → Stands rest x
        → ((k : ℕ) (c : List X) → slice_get (chains_from carries (if ends then [] else rest ++ x ∷ []) xs) k ≡ Some c → Whole c)
        → (k : ℕ) (c : List X) → slice_get (if ends then (rest ++ x ∷ []) ∷ chains_from carries [] xs else chains_from carries (rest ++ x ∷ []) xs) k ≡ Some c → Whole c
    grown_next rest x xs true e b s others zero c f = subst Whole (same_Some (rest ++ x ∷ []) c f) (ended rest x e b s)
    grown_next rest x xs true e b s others (suc k) c f = others k c f
    grown_next rest x xs false e b s others k c f = others k c f

    grown_chains : (rest xs : List X) → Begun rest → ((k : ℕ) (x : X) → slice_get xs k ≡ Some x → Stands (unfinished_from carries rest (take k xs)) x)
        → (k : ℕ) (c : List X) → slice_get (chains_from carries rest xs) k ≡ Some c → Whole c
    grown_chains rest [] b all k c f = absurd (none-some c f)
    grown_chains rest (x ∷ xs) b all k c f = grown_next rest x xs (carries x).eop refl b (all zero x refl)
        (grown_chains (if (carries x).eop then [] else rest ++ x ∷ []) xs (begun_next rest x (carries x).eop refl b (all zero x refl)) (λ j y g. all (suc j) y g)) k c f

    pub each_grown : (xs : List X) → ((k : ℕ) (x : X) → slice_get xs k ≡ Some x → Stands (unfinished_from carries [] (take k xs)) x) → (k : ℕ) (c : List X) → slice_get (chains carries xs) k ≡ Some c → Whole c
    each_grown xs all = grown_chains [] xs nothing all

  -- an unfinished frame: segments of 1 to 2,048 bytes without EOP
  record IsBegun (rest : List X) : Type 0 where
    some_bytes : (i : ℕ) (x : X) → slice_get rest i ≡ Some x → 0 < length (carries x).bytes
    few_bytes : (i : ℕ) (x : X) → slice_get rest i ≡ Some x → length (carries x).bytes ≤ BUFFER_BYTES
    goes_on : (i : ℕ) (x : X) → slice_get rest i ≡ Some x → (carries x).eop ≡ false

  -- what holds of those before and of one more holds of all
  each-snoc : (Holds : X → Type 0) (rest : List X) (x : X) → ((i : ℕ) (y : X) → slice_get rest i ≡ Some y → Holds y) → Holds x → (i : ℕ) (y : X) → slice_get (rest ++ x ∷ []) i ≡ Some y → Holds y
  each-snoc Holds rest x all h i y e = ⊎_elim (λ a. all i y a.1) (λ b. subst Holds b.1 h) (slice_get-snoc rest x y i e)

  begun-snoc : (n : ℕ) (rest : List X) (x : X) → (carries x).eop ≡ false → IsBegun rest → Follows carries n rest (carries x).bytes (carries x).eop → IsBegun (rest ++ x ∷ [])
  begun-snoc n rest x e b f = record {
    some_bytes = each-snoc (λ y. 0 < length (carries y).bytes) rest x b.some_bytes f.some_bytes;
    few_bytes = each-snoc (λ y. length (carries y).bytes ≤ BUFFER_BYTES) rest x b.few_bytes f.few_bytes;
    goes_on = each-snoc (λ y. (carries y).eop ≡ false) rest x b.goes_on e;
  }

  chain-ended : (n : ℕ) (rest : List X) (x : X) → (carries x).eop ≡ true → IsBegun rest → Follows carries n rest (carries x).bytes (carries x).eop → IsChain carries n (rest ++ x ∷ [])
  chain-ended n rest x e b f = let l = length-append rest (x ∷ []) in let s = f.segments in let d = f.descriptors in record {
    some_segments = omega arith;
    few_segments = omega arith;
    descriptors = omega arith;
    some_bytes = each-snoc (λ y. 0 < length (carries y).bytes) rest x b.some_bytes f.some_bytes;
    few_bytes = each-snoc (λ y. length (carries y).bytes ≤ BUFFER_BYTES) rest x b.few_bytes f.few_bytes;
    goes_on = λ i y g h. ⊎_elim (λ a. b.goes_on i y a.1) (λ a. let at = a.0 in absurd (omega arith)) (slice_get-snoc rest x y i g);
    ends = λ i y g h. ⊎_elim (λ a. let at = a.0 in absurd (omega arith)) (λ a. subst (λ (z : X). (carries z).eop ≡ true) a.1 e) (slice_get-snoc rest x y i g);
  }

  -- where each follows the rest before it, each stretch that ends is a chain
  pub AllFollow-chains : (n : ℕ) (xs : List X) → AllFollow carries n xs → (k : ℕ) (c : List X) → slice_get (chains carries xs) k ≡ Some c → IsChain carries n c
  AllFollow-chains n xs all = each_grown (λ before x. Follows carries n before (carries x).bytes (carries x).eop) IsBegun (IsChain carries n) (begun-snoc n) (chain-ended n)
      (record { some_bytes = λ i x e. absurd (none-some x e); few_bytes = λ i x e. absurd (none-some x e); goes_on = λ i x e. absurd (none-some x e) }) xs all
