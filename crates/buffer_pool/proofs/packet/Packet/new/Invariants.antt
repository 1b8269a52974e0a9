use Rattle.std.proofs.Common.{◌≡◌, ◌++◌, length}
use Rattle.buffer_pool.proofs.packet.Packet.new.Given as goal

-- the buffers at the back are in the packet
abbrev pub invariant-loop-buf : goal.invariant-loop-buf
invariant-loop-buf l = l.bufs.items ++ l.packet ≡ l.fn.bufs.items

abbrev pub decreases-loop-buf : goal.decreases-loop-buf
decreases-loop-buf l = length l.bufs.items
