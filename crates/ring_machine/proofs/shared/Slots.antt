-- Words and slots by place, as one is written.
use Rattle.std.proofs.Common.{◌≡◌, ℕ, zero, suc, ◌<◌, List, length, replicate, Option, Some, None, sym, refl, ap, ◌∙◌, ⊎_elim, arith, get_or-set_same, length-set}
use Rattle.std.specs.Prelude.{slice_get, slice_index, slice_set}
use Rattle.std.proofs.lemmas.Bool.{cases_eq}
use Rattle.std.proofs.lemmas.Option.{same_Some, slice_get_within}
use Rattle.ring_model.specs.declared.states.Owner.{Owner}
use Rattle.ring_model.specs.declared.states.Owner.TheVariants.{Driver, Ring, Controller}
use Rattle.ring_model.specs.shared.Lists.{slot_at}
use Rattle.ring_model.specs.kept.Writes.{Writes}
use Rattle.ring_laws.specs.Places.{slice_set-writes, slice_index-writes}
use Rattle.ring_machine.specs.code.Shared.{word_put}

-- what is in a place of optional things
abbrev flat : Option (Option ℕ) → Option ℕ
flat None = None
flat (Some b) = b

flat-at : (slots : List (Option ℕ)) (place : ℕ) (found : Option (Option ℕ)) → slice_get slots place ≡ found → slot_at slots place ≡ flat found
flat-at slots place None e = rw e refl
flat-at slots place (Some b) e = rw e refl

slot_at-flat : (slots : List (Option ℕ)) (place : ℕ) → slot_at slots place ≡ flat (slice_get slots place)
slot_at-flat slots place = flat-at slots place (slice_get slots place) refl

pub slot-writes : (slots : List (Option ℕ)) (n p : ℕ) (b : Option ℕ) → length slots ≡ n → p < n → Writes n (slot_at slots) (slot_at (slice_set slots p b)) p b
slot-writes slots n p b e h = let w = slice_set-writes slots p b (omega arith) in record {
  here = slot_at-flat (slice_set slots p b) p ∙ ap flat w.here;
  rest = λ j below ne. slot_at-flat (slice_set slots p b) j ∙ ap flat (w.rest j (omega arith) ne) ∙ sym (slot_at-flat slots j);
}

-- a word that was put where it is wanted, or that was there already
pub put-writes : (words : List ℕ) (n p x : ℕ) (word : Option ℕ) → length words ≡ n → p < n → slice_index (word_put words p word) p ≡ x → Writes n (slice_index words) (slice_index (word_put words p word)) p x
put-writes words n p x None e h is = record { here = is; rest = λ j below ne. refl }
put-writes words n p x (Some y) e h is = let w = slice_index-writes words n p y (omega arith) in record { here = is; rest = w.rest }

pub put-here : (words : List ℕ) (p x : ℕ) → p < length words → slice_index (word_put words p (Some x)) p ≡ x
put-here words p x h = get_or-set_same words p x 0 h

-- the driver's slots are empty still, where a place goes to an owner together with what lies there
pub empty-write : (owners : List Owner) (slots : List (Option ℕ)) (n i : ℕ) (who : Owner) (b : Option ℕ) → length owners ≡ n → length slots ≡ n → i < n → (who ≡ Driver → b ≡ None)
    → ((place : ℕ) → slice_get owners place ≡ Some Driver → slot_at slots place ≡ None)
    → (place : ℕ) → slice_get (slice_set owners i who) place ≡ Some Driver → slot_at (slice_set slots i b) place ≡ None
empty-write owners slots n i who b ho hs below none empty place mine = let o = slice_set-writes owners i who (omega arith) in let s = slot-writes slots n i b hs below in
    let inside = slice_get_within (slice_set owners i who) place Driver mine in let len = length-set owners i who in ⊎_elim
    (λ same. let it : who ≡ Driver = same_Some who Driver (sym o.here ∙ ap (λ (j : ℕ). slice_get (slice_set owners i who) j) (sym same) ∙ mine) in
    ap (λ (j : ℕ). slot_at (slice_set slots i b) j) same ∙ s.here ∙ none it)
    (λ ne. s.rest place (omega arith) ne ∙ empty place (sym (o.rest place (omega arith) ne) ∙ mine))
    (cases_eq place i)

none-there : (n place : ℕ) → flat (slice_get (replicate n None) place) ≡ None
none-there zero place = refl
none-there (suc n) zero = refl
none-there (suc n) (suc place) = none-there n place

pub empty-begun : (n place : ℕ) → slot_at {X = ℕ} (replicate n None) place ≡ None
empty-begun n place = slot_at-flat (replicate n None) place ∙ none-there n place

pub none_to-ring : {A : Type 0} → Ring ≡ Driver → A
none_to-ring e = absurd (let bad : ⊥ = cc e in bad)

pub none_to-controller : {A : Type 0} → Controller ≡ Driver → A
none_to-controller e = absurd (let bad : ⊥ = cc e in bad)
