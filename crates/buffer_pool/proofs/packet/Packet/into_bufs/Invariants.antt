use Rattle.std.proofs.Common.{◌≡◌, ◌++◌, length}
use Rattle.buffer_pool.specs.Packed.{AreReal}
use Rattle.buffer_pool.proofs.packet.Packet.into_bufs.Given as goal

-- the buffers at the front are out of the packet
abbrev pub invariant-loop-buf : goal.invariant-loop-buf
invariant-loop-buf l = record {
  all : l.bufs.items ++ l.packet ≡ l.fn.self;
  real : AreReal l.bufs.items;
}

abbrev pub decreases-loop-buf : goal.decreases-loop-buf
decreases-loop-buf l = length l.packet
