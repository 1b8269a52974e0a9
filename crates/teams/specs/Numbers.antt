-- The numbers that a flow counts.
use Rattle.std.specs.Prelude.{ℕ, ◌≤◌, List}
use Rattle.std.specs.List.{AllZip}

-- as many as before, and none of them is below the one at its place before
abbrev pub NoneFalls : List ℕ → List ℕ → Type 0
NoneFalls older newer = AllZip (λ x y. x ≤ y) older newer
