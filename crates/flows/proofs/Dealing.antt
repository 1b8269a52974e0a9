-- What is dealt by keys, and what a refusal of memory is.
use Rattle.std.proofs.Common.{◌≡◌, ◌∙◌, ℕ, ◌-◌, ◌<◌, Bool, List, [], ◌∷◌, refl, ap, sym, subst, length, map, zero, suc, arith}
use Rattle.std.proofs.lemmas.List.{length-map}
use Rattle.std.proofs.lemmas.Simd.{map-map}
use Rattle.teams.specs.declared.gate.Who.{Who}
use Rattle.teams.specs.declared.gate.Event.{Event}
use Rattle.refusals.specs.declared.errors.ForwardError.{ForwardError}
use Rattle.refusals.specs.declared.errors.ForwardError.TheVariants.{Memory}
use Rattle.teams.specs.Dealing.{every, IsDealt}
use Rattle.teams.specs.Refusals.{Halted}
use Rattle.teams.proofs.Lists.{mapped-at}

every-map : {A B : Type 0} (f : A → B) (count k : ℕ) (xs : List A) → map f (every count k xs) ≡ every count k (map f xs)
every-map f count k [] = refl
every-map f count zero (x ∷ xs) = ap (λ l. f x ∷ l) (every-map f count (count - 1) xs)
every-map f count (suc k) (x ∷ xs) = every-map f count k xs

-- what is dealt is dealt by what is seen of each item
dealt-map : {A B : Type 0} (f : A → B) (items : List A) (hands : List (List A)) → IsDealt items hands → IsDealt (map f items) (map (map f) hands)
dealt-map f items hands dealt w d low =
    let same = length-map hands (map f) in
    let low' : w < length hands = omega (arith, low, same) in
    mapped-at (map f) hands w (map f (every (length hands) w items)) d low' (λ e. ap (map f) (dealt w e low'))
    ∙ every-map f (length hands) w items ∙ ap (λ n. every n w (map f items)) (sym same)

-- the same of hands that show their items
pub dealt-keys : {A B H : Type 0} (key : A → B) (items : List A) (of : H → List A) (hands : List H)
    → IsDealt items (map of hands) → IsDealt (map key items) (map (λ h. map key (of h)) hands)
dealt-keys key items of hands dealt = subst (IsDealt (map key items)) (map-map (map key) of hands) (dealt-map key items (map of hands) dealt)

pub memory_halted : {G : Type 0} (answers : G → Who → Event → Bool → Type 0) (gate : G) (e : ForwardError) → e ≡ Memory → Halted answers gate e
memory_halted answers gate e is = subst (Halted answers gate) (sym is) tt
