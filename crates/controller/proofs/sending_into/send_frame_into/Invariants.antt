use Rattle.std.proofs.Common.{if◌then◌else◌}
use Rattle.tx_ring.specs.Ends.{known_ready}
use Rattle.controller.proofs.PuttingInto.{IsGoing}
use Rattle.controller.proofs.sending_into.send_frame_into.Given as goal

abbrev pub invariant-loop-ends : goal.invariant-loop-ends
invariant-loop-ends l = IsGoing l.fn.end l.fn.room l.fn.arena l.ends l.end l.room l.past l.arena

abbrev pub decreases-loop-ends : goal.decreases-loop-ends
decreases-loop-ends l = if l.ends then 0 else known_ready l.end
