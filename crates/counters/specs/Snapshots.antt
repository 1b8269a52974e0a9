-- The moments of a cell: the numbers that it held together, one moment after another.
use Rattle.std.specs.Prelude.{◌≡◌, ℕ, ◌<◌, ◌^◌, ◌≤◌, All, List, [], ◌∷◌, ◌++◌}
use Rattle.std.specs.List.{AllZip}

-- No number of the older row exceeds the one at its place in the newer row.
abbrev pub NoneFalls : List ℕ → List ℕ → Type 0
NoneFalls older newer = AllZip (λ x y. x ≤ y) older newer

-- Each of these numbers is one that a counter can have.
abbrev pub AreCounts : List ℕ → Type 0
AreCounts ns = All (λ n. n < 2 ^ 64) ns

-- The newer moments are the older ones, possibly followed by later ones. The newest comes first.
abbrev pub GoesOn : {T : Type 0} → List T → List T → Type 0
GoesOn {T} older newer = (later : List T) × (newer ≡ later ++ older)

module _ {T : Type 0} (words : T → List ℕ) (lawful : T → Type 0) where
  -- No number of the newest of these moments exceeds its counterpart in `x`.
  abbrev pub Follows : List T → T → Type 0
  Follows [] x = Unit {0}
  Follows (y ∷ ys) x = NoneFalls (words y) (words x)

  -- Each of these moments is lawful, and no number falls from one to the next. The newest comes first.
  abbrev pub AreSnapshots : List T → Type 0
  AreSnapshots [] = Unit {0}
  AreSnapshots (x ∷ xs) = lawful x × Follows xs x × AreSnapshots xs
