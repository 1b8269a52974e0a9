-- Lists, and the items of a ring: item k has the place k % n.
use Rattle.std.specs.Prelude.{◌≡◌, ℕ, ◌%◌, ◌<◌, ◌≤◌, List, ◌++◌, Option, Some, None, slice_get}

-- `xs` is a prefix of `ys`.
-- No worked row decides this; the laws' proofs rely on it.
abbrev pub IsBeginning : {X : Type 0} → List X → List X → Type 0
IsBeginning {X} xs ys = (rest : List X) × (xs ++ rest ≡ ys)

-- The contents of the place of each item from `first` up to, but not including, `past`.
-- No worked row decides this; the proofs of `ring_machine` and `shared_ring` rely on it.
abbrev pub EachItem : {X : Type 0} → ℕ → ℕ → ℕ → (ℕ → X) → (ℕ → X) → Type 0
EachItem n first past found wanted = (k : ℕ) → first ≤ k → k < past → found (k % n) ≡ wanted k

-- The contents of the slot at a place, or `None` if there is no such place or the slot is empty.
-- No worked row decides this; the proofs of `ring_machine` rely on it.
abbrev pub slot_at : {X : Type 0} → List (Option X) → ℕ → Option X
slot_at slots place = within (slice_get slots place)
  where
    within : {Y : Type 0} → Option (Option Y) → Option Y
    within None = None
    within (Some x) = x
