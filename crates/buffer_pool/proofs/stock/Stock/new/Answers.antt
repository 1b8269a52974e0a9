use Rattle.buffer_pool.proofs.Numbers.{IsStock-full_stock}
use Rattle.buffer_pool.proofs.stock.Stock.new.Goals as goal

pub invariant_of-result : goal.invariant_of-result
invariant_of-result c = record {
  numbers = rw c.in_ok-pile.ensures.numbers (IsStock-full_stock c.args.first c.args.count);
  ready = c.in_ok-pile.ensures.ready;
  room = c.in_ok-pile.ensures.room;
}
