-- What a fresh stash has is what the pass took, and is held.
use Rattle.std.proofs.Common.{◌≡◌, ℕ, List, [], ◌++◌, IsPermutation, length, take, reverse, sym, ap, ◌∙◌, subst, arith, length-append, append-nil}
use Rattle.std.proofs.lemmas.List.{length-reverse, take_all}
use Rattle.std.proofs.lemmas.List.Sorted.{IsPermutation-refl}
use Rattle.pool.specs.declared.hand.Hand.{Hand}
use Rattle.pool.specs.Bulk.{Refilled}
use Rattle.pool.specs.Hands.{HoldsAll}
use Rattle.examples.proofs.worker.batch.Goals as goal

-- all that a fresh stash has after a refill is held
held-all : (v w : Hand) (moved : ℕ) (before stash : List ℕ) → before ≡ [] → Refilled v before moved w stash → HoldsAll w.held (take moved stash)
held-all v w moved before stash none r =
    let fresh : stash ≡ reverse r.numbers ++ [] = r.stashed ∙ ap (λ (xs : List ℕ). reverse r.numbers ++ xs) none in
    let as_many : length stash ≡ moved = ap (length {A = ℕ}) fresh ∙ simp (length-append, length-reverse) (omega (arith, r.as_many)) in
    let whole : take moved stash ≡ stash = take_all moved stash (omega arith) in
    let held : w.held ≡ take moved stash ++ v.held = r.took.held ∙ ap (λ (xs : List ℕ). xs ++ v.held) (sym (whole ∙ fresh ∙ append-nil (reverse r.numbers))) in
    (v.held, subst (λ (xs : List ℕ). IsPermutation w.held xs) held (IsPermutation-refl w.held))

pub give_all-requires-clause-held : goal.give_all-requires-clause-held
give_all-requires-clause-held g c = rw c.fill_first.ensures
    (held-all c.args.pass.now.hand c.refill-taken.new.pass.hand c.refill-taken.result _ c.refill-taken.new.stash c.new-stash.ensures c.refill-taken.ensures.moved)
