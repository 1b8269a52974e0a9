use Rattle.std.proofs.Common.{[], ◌++◌, length}
use Rattle.rx_ring.specs.Ends.{posted}
use Rattle.flows.specs.Holding.{Keeps}
use Rattle.flows.specs.Driven.{OnlyPosted}
use Rattle.flows.proofs.starting.post_fitting.Given as goal

abbrev pub invariant-loop-stash : goal.invariant-loop-stash
invariant-loop-stash l = record { did : OnlyPosted l.fn.end l.end; kept : Keeps [] (l.fn.stash ++ posted l.fn.end) [] (l.stash ++ posted l.end) }

abbrev pub decreases-loop-stash : goal.decreases-loop-stash
decreases-loop-stash l = length l.stash
