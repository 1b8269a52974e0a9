use Rattle.std.proofs.Common.{◌≡◌, ◌≤◌, length}
use Rattle.pool.specs.Owned.{IsOf}
use Rattle.flows.specs.Holding.{Keeps}
use Rattle.flows.proofs.holding.give_stash.Given as goal

abbrev pub invariant-loop-buf : goal.invariant-loop-buf
invariant-loop-buf g l = record { pool : IsOf l.pool l.pass; share : l.pass.hand.share ≡ l.fn.pass.hand.share; fewer : length l.pass.hand.held ≤ length l.fn.pass.hand.held; kept : Keeps l.fn.pass.hand.held l.fn.stash l.pass.hand.held l.stash }

abbrev pub decreases-loop-buf : goal.decreases-loop-buf
decreases-loop-buf g l = length l.stash
