-- What was taken at once and is given back at once.
use Rattle.std.proofs.Common.{◌≡◌, ℕ, List, [], ◌∷◌, ◌++◌, length, take, reverse, min, cond, Bool, refl, sym, ap, ◌∙◌, arith, length-append}
use Rattle.std.proofs.lemmas.List.{length-reverse}
use borrow.Author.Tests.{eq-eqb}
use Rattle.pool.specs.declared.hand.Hand.{Hand}
use Rattle.pool.specs.Bulk.{Refilled}
use Rattle.pool.specs.Hands.{without, without_all, Gave}

without_all-itself : (xs : List ℕ) → without_all xs xs ≡ []
without_all-itself [] = refl
without_all-itself (x ∷ xs) = ap (λ (t : Bool). without_all xs (cond t xs (x ∷ without x xs))) (eq-eqb x x refl) ∙ without_all-itself xs

-- a pass that held nothing holds nothing again
pub returned : (v w x : Hand) (stash : List ℕ) (moved given : ℕ) → v.held ≡ [] → Refilled v [] moved w stash → given ≡ min moved (length stash)
    → Gave w (take given stash) x → x.held ≡ []
returned v w x stash moved given idle r all gave =
    let as_many : length stash ≡ moved = ap (length {A = ℕ}) r.stashed ∙ simp (length-append, length-reverse) (omega (arith, r.as_many)) in
    let whole : take given stash ≡ stash = ap (λ (n : ℕ). take n stash) (let e : given ≡ length stash = omega arith in e) ∙ all-of stash in
    let held : w.held ≡ stash = r.took.held ∙ ap (λ (xs : List ℕ). reverse r.numbers ++ xs) idle ∙ sym r.stashed in
    gave.held ∙ ap (λ (xs : List ℕ). without_all xs w.held) whole ∙ ap (without_all stash) held ∙ without_all-itself stash
  where
    all-of : (xs : List ℕ) → take (length xs) xs ≡ xs
    all-of [] = refl
    all-of (y ∷ ys) = ap (λ (zs : List ℕ). y ∷ zs) (all-of ys)
