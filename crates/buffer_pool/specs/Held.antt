-- The content of a `Stock`'s fields.
use Rattle.std.specs.Prelude.{◌≡◌, vec_capacity}
use Rattle.buffer_pool.specs.Shelf.{stock_of, AllReady}
use Rattle.buffer_pool.specs.Stocked.{Stocked, IsStock}
use Rattle.buffer_pool.specs.declared.stock.Stock.TheInside.{Inside}

-- The stock that callers see.
abbrev pub stocked : Inside → Stocked
stocked s = stock_of s.first s.count s.pile.items

-- No two buffers have the same number, all may go out, and there is room for those that are out.
pub record IsHeld (s : Inside) : Type 0 where
  pub numbers : IsStock (stocked s)
  pub ready : AllReady s.pile.items
  pub room : vec_capacity s.pile ≡ s.count
