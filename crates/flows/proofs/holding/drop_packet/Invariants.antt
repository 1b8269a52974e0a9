use Rattle.std.proofs.Common.{◌≡◌, ◌+◌, ◌++◌, length}
use Rattle.driver.specs.receive.Returns.{numbers_of}
use Rattle.pool.specs.Owned.{IsOf}
use Rattle.flows.specs.Holding.{Keeps}
use Rattle.flows.proofs.holding.drop_packet.Given as goal

abbrev pub invariant-loop-buf : goal.invariant-loop-buf
invariant-loop-buf g l = record { pool : IsOf l.pool l.pass; share : l.pass.hand.share ≡ l.fn.pass.hand.share; held : length l.pass.hand.held + l.short ≡ length l.fn.pass.hand.held + l.fn.short; kept : Keeps l.fn.pass.hand.held (l.fn.stash ++ numbers_of l.fn.packet) l.pass.hand.held (l.stash ++ numbers_of l.packet) }

abbrev pub decreases-loop-buf : goal.decreases-loop-buf
decreases-loop-buf g l = length l.packet
