-- What is still held of the packet is that of the buffers that are left in it.
use Rattle.std.proofs.Common.{◌≡◌, length}
use Rattle.driver.specs.receive.Returns.{numbers_of}
use Rattle.pool.specs.Owned.{IsOf}
use Rattle.buffer_accounting.specs.Lent.{Exchanged}
use Rattle.buffer_accounting.proofs.returning.give_packet.Given as goal

abbrev pub invariant-loop-buf : goal.invariant-loop-buf
invariant-loop-buf g l = record {
  pool : IsOf l.pool l.pass;
  share : l.pass.hand.share ≡ l.initial.pass.hand.share;
  given : Exchanged l.initial.pass.hand.held (numbers_of l.initial.packet) l.pass.hand.held (numbers_of l.packet);
}

abbrev pub decreases-loop-buf : goal.decreases-loop-buf
decreases-loop-buf g l = length l.packet
