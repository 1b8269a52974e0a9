use Rattle.std.proofs.Common.{◌≡◌, ◌+◌, length}
use Rattle.rx_ring.specs.Ends.{posted}
use Rattle.driver.specs.receive.Batches.{Filled}
use Rattle.driver.proofs.rx_driver.polling.fill.Given as goal

abbrev pub invariant-loop : goal.invariant-loop
invariant-loop l = record {
  filled : Filled l.initial.driver l.initial.stash l.driver l.stash;
  count : length (posted l.driver) ≡ length (posted l.initial.driver) + l.counter;
}
