use Rattle.tx_ring.specs.Ends.{known_ready}
use Rattle.controller.proofs.Putting.{IsSendingOn}
use Rattle.controller.proofs.sending.send_frame.Given as goal

abbrev pub invariant-loop : goal.invariant-loop
invariant-loop l = IsSendingOn l.initial.end l.initial.arena l.end l.arena

abbrev pub decreases-loop : goal.decreases-loop
decreases-loop l = known_ready l.end
