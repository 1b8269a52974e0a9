-- Steps one after another, with one more at the end.
use Rattle.std.proofs.Common.{List, [], ◌∷◌, ◌++◌, refl, subst}
use Rattle.controller.specs.Chained.{Chained}

module _ {S X : Type 0} (Step : S → X → S → Type 0) where
  pub chained-nil : (s : S) → Chained Step s [] s
  chained-nil s = refl

  pub chained-snoc : (old : S) (xs : List X) (mid : S) (x : X) (new : S) → Chained Step old xs mid → Step mid x new → Chained Step old (xs ++ x ∷ []) new
  chained-snoc old [] mid x new same step = (new, subst (λ (s : S). Step s x new) same step, refl)
  chained-snoc old (y ∷ ys) mid x new steps step = (steps.0, steps.1, chained-snoc steps.0 ys mid x new steps.2 step)
