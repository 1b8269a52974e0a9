-- The stash is empty between two turns, and what is still out is all that is held of what was.
use Rattle.std.proofs.Common.{◌≡◌, true, [], ◌++◌, length}
use Rattle.ring_model.specs.shared.Handshakes.{is_stopped}
use Rattle.shared_ring.specs.Ends.{driver_of, driver_state}
use Rattle.pool.specs.Owned.{IsOf}
use Rattle.buffer_accounting.specs.Lent.{Exchanged}
use Rattle.buffer_accounting.proofs.returning.give_disabled.Given as goal

abbrev pub invariant-loop-pass : goal.invariant-loop-pass
invariant-loop-pass g l = record {
  ring : (g.Q.QueueDriver.side l.driver).table ≡ (g.Q.QueueDriver.side l.initial.driver).table;
  pool : IsOf l.pool l.pass;
  share : l.pass.hand.share ≡ l.initial.pass.hand.share;
  stopped : is_stopped (driver_state (driver_of g.R.Direction.form (g.Q.QueueDriver.side l.driver))) ≡ true;
  stash : l.stash ≡ [];
  given : Exchanged l.initial.pass.hand.held (l.initial.stash ++ g.Q.LentDriver.with l.initial.driver) l.pass.hand.held (g.Q.LentDriver.with l.driver);
}

abbrev pub decreases-loop-pass : goal.decreases-loop-pass
decreases-loop-pass g l = length (g.Q.LentDriver.with l.driver)
