-- What is still held of the packets is that of those that are left.
use Rattle.std.proofs.Common.{◌≡◌, length}
use Rattle.driver.specs.transmit.Frames.{numbers_in}
use Rattle.pool.specs.Owned.{IsOf}
use Rattle.buffer_accounting.specs.Lent.{Exchanged}
use Rattle.buffer_accounting.proofs.returning.give_packets.Given as goal

abbrev pub invariant-loop-packet : goal.invariant-loop-packet
invariant-loop-packet g l = record {
  pool : IsOf l.pool l.pass;
  share : l.pass.hand.share ≡ l.initial.pass.hand.share;
  given : Exchanged l.initial.pass.hand.held (numbers_in l.initial.packets.items) l.pass.hand.held (numbers_in l.packets.items);
}

abbrev pub decreases-loop-packet : goal.decreases-loop-packet
decreases-loop-packet g l = length l.packets.items
