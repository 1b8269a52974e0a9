use Rattle.std.proofs.Common.{length}
use Rattle.poll82599_c.proofs.Packing.{IsBegun}
use Rattle.poll82599_c.proofs.batches.packets.packed.Given as goal

abbrev pub invariant-loop-rest : goal.invariant-loop-rest
invariant-loop-rest l = record { begun : IsBegun l.initial.frame l.initial.stash l.packet l.stash l.rest }

abbrev pub decreases-loop-rest : goal.decreases-loop-rest
decreases-loop-rest l = length l.rest
