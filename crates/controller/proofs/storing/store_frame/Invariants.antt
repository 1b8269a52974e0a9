use Rattle.std.proofs.Common.{length}
use Rattle.controller.proofs.Growing.{IsStoring}
use Rattle.controller.proofs.storing.store_frame.Given as goal

abbrev pub invariant-loop-rest : goal.invariant-loop-rest
invariant-loop-rest l = IsStoring l.bsize l.frame l.initial.end l.rest l.end

abbrev pub decreases-loop-rest : goal.decreases-loop-rest
decreases-loop-rest l = length l.rest
