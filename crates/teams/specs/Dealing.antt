-- Dealing items to hands in turn.
use Rattle.std.specs.Prelude.{◌≡◌, ℕ, zero, suc, ◌+◌, ◌-◌, ◌<◌, ◌⊎◌, List, [], ◌∷◌, length, slice_index_or}

-- Every `count`-th item; the first of them comes after `k` others.
abbrev pub every : {X : Type 0} → ℕ → ℕ → List X → List X
every count k [] = []
every count zero (x ∷ xs) = x ∷ every count (count - 1) xs
every count (suc k) (x ∷ xs) = every count k xs

-- With n hands, hand `w` has every n-th item from item `w` on.
abbrev pub IsDealt : {X : Type 0} → List X → List (List X) → Type 0
IsDealt {X} items hands = (w : ℕ) (d : List X) → w < length hands → slice_index_or hands w d ≡ every (length hands) w items

-- The turn passes to the next of `count` hands, and from the last to the first.
abbrev pub Passes : ℕ → ℕ → ℕ → Type 0
Passes count worker worker' = ((worker + 1 ≡ count) × (worker' ≡ 0)) ⊎ ((worker + 1 < count) × (worker' ≡ worker + 1))
