-- The view of a `Stock` in contracts.
use Rattle.std.specs.Prelude.{◌≢◌, ℕ, ◌+◌, ◌<◌, ◌≤◌, List, ◌∷◌, ◌++◌, All, AllPairs, Contains, IsPermutation}
use Rattle.std.specs.List.{range_with_len}

-- The range of the stock's numbers, and the numbers of the buffers in it, in the order in which they come out.
pub record Stocked : Type 0 where
  pub first : ℕ
  pub count : ℕ
  pub numbers : List ℕ

-- Nothing is out, and the least number comes out first.
abbrev pub full_stock : ℕ → ℕ → Stocked
full_stock first count = record { first = first; count = count; numbers = range_with_len first count }

-- The stock with one more buffer in it, which comes out next.
abbrev pub with_number : Stocked → ℕ → Stocked
with_number s number = record s { numbers = number ∷ s.numbers }

-- A buffer of the stock has this number.
abbrev pub IsNumberOf : Stocked → ℕ → Type 0
IsNumberOf s number = (s.first ≤ number) × (number < s.first + s.count)

-- Each number in the stock is in its range and appears once.
pub record IsStock (s : Stocked) : Type 0 where
  pub of_range : All (IsNumberOf s) s.numbers
  pub once : AllPairs (λ one other. one ≢ other) s.numbers

-- The buffer with this number belongs to the stock and is not in it.
pub record IsOut (s : Stocked) (number : ℕ) : Type 0 where
  pub of_range : IsNumberOf s number
  pub absent : ¬ Contains s.numbers number

-- The numbers in the stock and those of the buffers out are together its range, each once.
abbrev pub Shares : Stocked → List ℕ → Type 0
Shares s out = IsPermutation (range_with_len s.first s.count) (s.numbers ++ out)
