-- What the drivers of both layers keep of the frames that went through them.
use Rattle.std.proofs.Common.{◌≡◌, ◌∙◌, ℕ, List, ◌++◌, map, take, drop, sym, ap, append_assoc}
use Rattle.std.proofs.lemmas.List.{map-append, take-append-drop}

-- What was got is what was passed on and what is at hand; then more is got, and the first at hand are passed on
pub passes_on : {X Y : Type 0} (f : X → Y) (got got' passed passed' : List Y) (had more has left : List X) (k : ℕ)
    → got ≡ passed ++ map f had → got' ≡ got ++ map f more → has ≡ had ++ more → passed' ≡ passed ++ map f (take k has) → left ≡ drop k has → got' ≡ passed' ++ map f left
passes_on {X} {Y} f got got' passed passed' had more has left k was gets comes passing stays =
    let front : List Y = map f (take k has) in
    let rest : List Y = map f (drop k has) in
    let all : front ++ rest ≡ map f has = sym (map-append f (take k has) (drop k has)) ∙ ap (map f) (take-append-drop k has) in
    let at_hand : map f has ≡ map f had ++ map f more = ap (map f) comes ∙ map-append f had more in
    let before : got' ≡ passed ++ map f has = gets ∙ (ap (λ (l : List Y). l ++ map f more) was ∙ (append_assoc passed (map f had) (map f more) ∙ ap (λ (l : List Y). passed ++ l) (sym at_hand))) in
    let after : passed ++ map f has ≡ (passed ++ front) ++ rest = ap (λ (l : List Y). passed ++ l) (sym all) ∙ sym (append_assoc passed front rest) in
    before ∙ (after ∙ (ap (λ (l : List Y). l ++ rest) (sym passing) ∙ ap (λ (l : List X). passed' ++ map f l) (sym stays)))
