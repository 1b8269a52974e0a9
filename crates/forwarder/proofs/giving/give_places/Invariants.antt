use Rattle.std.proofs.Common.{◌≡◌}
use Rattle.std.specs.Vec.Iter.{into_iter_items}
use Rattle.buffer_accounting.specs.Lent.{Exchanged}
use Rattle.pool.specs.Owned.{IsOf}
use Rattle.shared_ring.specs.Meeting.{AllReal, numbers_at}
use Rattle.forwarder.proofs.giving.give_places.Given as goal

-- what is still held of the places is that of those that are left
abbrev pub invariant-loop-place : goal.invariant-loop-place
invariant-loop-place g l = record {
  pool : IsOf l.pool l.pass;
  share : l.pass.hand.share ≡ l.initial.pass.hand.share;
  real : AllReal (into_iter_items l.place-iterator);
  given : Exchanged l.initial.pass.hand.held (numbers_at l.fn.places.items) l.pass.hand.held (numbers_at (into_iter_items l.place-iterator));
}
