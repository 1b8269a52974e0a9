-- Steps one after another.
use Rattle.std.specs.Prelude.{◌≡◌, List, [], ◌∷◌}

-- From the old state to the new one, one step for each item of the list.
abbrev pub Chained : {S X : Type 0} → (S → X → S → Type 0) → S → List X → S → Type 0
Chained Step old [] new = new ≡ old
Chained {S} Step old (x ∷ xs) new = (mid : S) × Step old x mid × Chained Step mid xs new
