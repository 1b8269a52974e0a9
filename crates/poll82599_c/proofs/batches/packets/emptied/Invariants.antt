use Rattle.std.proofs.Common.{◌≡◌, ◌+◌, ◌≤◌, ◌++◌, length, reverse}
use Rattle.buffer_pool.specs.declared.stash.TheConstants.{STASH_BUFFERS}
use Rattle.poll82599_c.specs.batches.Packets.{numbers_of}
use Rattle.poll82599_c.proofs.batches.packets.emptied.Given as goal

abbrev pub invariant-loop-buf : goal.invariant-loop-buf
invariant-loop-buf l = record {
  moved : reverse (numbers_of l.initial.packet) ++ l.initial.stash ≡ reverse (numbers_of l.packet) ++ l.stash;
  room : length l.packet + length l.stash ≤ STASH_BUFFERS;
}

abbrev pub decreases-loop-buf : goal.decreases-loop-buf
decreases-loop-buf l = length l.packet
