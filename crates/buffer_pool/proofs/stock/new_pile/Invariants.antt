use Rattle.std.proofs.Common.{◌≡◌, ◌+◌, ◌-◌, vec_len, vec_capacity}
use Rattle.std.specs.List.{range_with_len}
use Rattle.buffer_pool.specs.Shelf.{numbers_of, AllReady}
use Rattle.buffer_pool.proofs.stock.new_pile.Given as goal

-- the buffers with the greatest numbers are made
abbrev pub invariant-loop-number : goal.invariant-loop-number
invariant-loop-number l = record {
  numbers : numbers_of l.pile.items ≡ range_with_len l.number (l.first + l.count - l.number);
  ready : AllReady l.pile.items;
  made : vec_len l.pile + l.number ≡ l.first + l.count;
  room : vec_capacity l.pile ≡ l.count;
}
