use Rattle.std.proofs.Common.{◌+◌, ◌-◌, ◌≤◌, length}
use Rattle.rx_ring.specs.Ends.{posted, taken}
use Rattle.limits.specs.declared.profile.TheConstants.{MOST_BATCH}
use Rattle.driver.specs.receive.Batches.{at, Polled, batch_of}
use Rattle.driver.proofs.receive.Exchanging.{GoesOn}
use Rattle.driver.proofs.rx_driver.polling.take.Given as goal

abbrev pub invariant-loop-count : goal.invariant-loop-count
invariant-loop-count l = record {
  polled : Polled (at l.initial.driver l.initial.chain l.initial.stash l.initial.packets.items) l.count (at l.driver l.chain l.stash l.packets.items);
  few : l.count ≤ l.batch;
  goes : GoesOn (batch_of l.batch MOST_BATCH l.initial.packets.items) (batch_of l.batch MOST_BATCH l.initial.packets.items - l.count) l.initial.driver l.initial.stash l.driver l.stash;
}

abbrev pub decreases-loop-count : goal.decreases-loop-count
decreases-loop-count l = length l.stash + (length (posted l.driver) - length (taken l.driver))
