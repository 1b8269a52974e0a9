use Rattle.std.proofs.Common.{◌≡◌, ◌+◌, ◌-◌, ◌≤◌, ◌++◌, length}
use Rattle.rx_ring.specs.Ends.{posted}
use Rattle.pool.specs.Owned.{IsOf}
use Rattle.flows.specs.Holding.{Keeps}
use Rattle.flows.specs.Driven.{OnlyPosted}
use Rattle.flows.proofs.starting.stock_up.Given as goal

abbrev pub invariant-loop-taken : goal.invariant-loop-taken
invariant-loop-taken g l = record { few : l.taken ≤ l.most; counted : length l.pass.hand.held ≡ length l.fn.pass.hand.held + l.taken; pool : IsOf l.pool l.pass; share : l.pass.hand.share ≡ l.fn.pass.hand.share; did : OnlyPosted l.fn.end l.end; kept : Keeps l.fn.pass.hand.held (l.fn.stash ++ posted l.fn.end) l.pass.hand.held (l.stash ++ posted l.end) }

abbrev pub decreases-loop-taken : goal.decreases-loop-taken
decreases-loop-taken g l = l.most - l.taken
