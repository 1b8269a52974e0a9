-- The buffers of a `Stock`: a pile with the next one to come out on top.
use Rattle.std.specs.Prelude.{◌≡◌, ℕ, List, [], map, reverse, All}
use Rattle.buffer_pool.specs.Buffer.{Buffer, buffer}
use Rattle.buffer_pool.specs.Stocked.{Stocked}

-- The numbers of a pile of buffers, from the top.
abbrev pub numbers_of : List Buffer → List ℕ
numbers_of pile = map (λ b. b.number) (reverse pile)

-- The stock that callers see.
abbrev pub stock_of : ℕ → ℕ → List Buffer → Stocked
stock_of first count pile = record { first = first; count = count; numbers = numbers_of pile }

-- Each buffer has room and no bytes.
abbrev pub AllReady : List Buffer → Type 0
AllReady pile = All (λ b. b ≡ buffer b.number []) pile
