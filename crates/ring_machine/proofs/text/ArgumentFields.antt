-- The fields that are arguments, read one after the other.
use Rattle.std.proofs.Common.{◌≡◌, ℕ, ◌+◌, ◌^◌, ◌<◌, ◌≤◌, List, [], ◌∷◌, ◌++◌, length, map, Bor, Option, Some, None, sym, ap, ◌∙◌, append_assoc, arith, length-append}
use Rattle.std.specs.Prelude.{IfSome, decimal}
use Rattle.std.proofs.lemmas.List.{length-map, map-append}
use Rattle.ring_machine.specs.code.Fields.{AreSmall, fields_in, later_fields}

-- how much is left, with one for the field that begins there
abbrev pub left_len : Option (Bor (List ℕ)) → ℕ
left_len None = 0
left_len (Some rest) = length rest.now + 1

-- what is left, as its first field and the others
pub next_field : (got : List ℕ) (all fields : List (List ℕ)) (rest : Option (Bor (List ℕ))) (left : Bor (List ℕ))
    → all ≡ map decimal got ++ later_fields rest → rest ≡ Some left → fields_in left.now ≡ fields
    → all ≡ map decimal got ++ fields
next_field got all fields rest left before is cut =
    before ∙ ap (λ more. map decimal got ++ more) (ap later_fields is ∙ cut)

-- a field that is no number
pub no_number : (got ns : List ℕ) (field : List ℕ) (more : List (List ℕ)) → ((n : ℕ) → n < 2 ^ 16 → field ≡ decimal n → ⊥)
    → AreSmall ns → map decimal got ++ field ∷ more ≡ map decimal ns → ⊥
no_number [] [] field more wrong fit same = cc
no_number [] (n ∷ ns) field more wrong fit same =
    let here : field ≡ decimal n = cc in
    wrong n fit.0 here
no_number (g ∷ got) [] field more wrong fit same = cc
no_number (g ∷ got) (n ∷ ns) field more wrong fit same =
    let later : map decimal got ++ field ∷ more ≡ map decimal ns = cc in
    no_number got ns field more wrong fit.1 later

-- one more than there may be
pub too_many : (got ns : List ℕ) (field : List ℕ) (more : List (List ℕ)) → length ns ≤ length got
    → map decimal got ++ field ∷ more ≡ map decimal ns → ⊥
too_many got ns field more few same =
    let longer : length (map decimal got ++ field ∷ more) ≡ length (map decimal ns) = ap length same in
    let e = simp (length-append, length-map) at longer in
    omega (arith, e)

-- one more
pub one_more : (got : List ℕ) (n : ℕ) (field : List ℕ) (more all : List (List ℕ)) → field ≡ decimal n
    → all ≡ map decimal got ++ field ∷ more
    → all ≡ map decimal (got ++ n ∷ []) ++ more
one_more got n field more all same before =
    before
    ∙ ap (λ f. map decimal got ++ f ∷ more) same
    ∙ sym (append_assoc (map decimal got) (decimal n ∷ []) more)
    ∙ ap (λ xs. xs ++ more) (sym (map-append decimal got (n ∷ [])))

-- a field takes at least a byte of what is left, or ends it
pub less_left : (len : ℕ) (after : Option (Bor (List ℕ))) → IfSome after (λ rest. length rest.now < len)
    → left_len after < len + 1
less_left len None shorter = omega arith
less_left len (Some rest) shorter = omega arith

pub small_more : (got : List ℕ) (n : ℕ) → AreSmall got → n < 2 ^ 16 → AreSmall (got ++ n ∷ [])
small_more [] n small here = (here, tt)
small_more (g ∷ got) n small here = (small.0, small_more got n small.1 here)
