use Rattle.std.proofs.Common.{length}
use Rattle.poll82599_c.proofs.Patching.{IsPatching}
use Rattle.poll82599_c.proofs.batches.ranges.patch.Given as goal

abbrev pub invariant-loop-buf : goal.invariant-loop-buf
invariant-loop-buf l = record { going : IsPatching l.at l.bytes l.fn.packet l.done l.skip l.rest l.packet }

abbrev pub decreases-loop-buf : goal.decreases-loop-buf
decreases-loop-buf l = length l.packet
