use Rattle.std.proofs.Common.{◌≡◌, ◌+◌, ◌≤◌, ◌++◌, length}
use Rattle.limits.specs.declared.profile.TheConstants.{MOST_BATCH}
use Rattle.driver.specs.transmit.Frames.{numbers_in}
use Rattle.pool.specs.Owned.{IsOf}
use Rattle.flows.specs.Holding.{Keeps}
use Rattle.flows.proofs.holding.drop_packets.Given as goal

abbrev pub invariant-loop-packet : goal.invariant-loop-packet
invariant-loop-packet g l = record {
  pool : IsOf l.pool l.pass;
  share : l.pass.hand.share ≡ l.fn.pass.hand.share;
  count : l.count ≡ length l.fn.packets.items;
  few : l.count ≤ MOST_BATCH;
  held : length l.pass.hand.held + l.short ≡ length l.fn.pass.hand.held + l.fn.short;
  kept : Keeps l.fn.pass.hand.held (l.fn.stash ++ numbers_in l.fn.packets.items) l.pass.hand.held (l.stash ++ numbers_in l.packets.items);
}

abbrev pub decreases-loop-packet : goal.decreases-loop-packet
decreases-loop-packet g l = length l.packets.items
