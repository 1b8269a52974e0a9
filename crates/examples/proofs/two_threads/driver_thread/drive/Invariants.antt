use Rattle.std.proofs.Common.{◌≡◌}
use Rattle.examples.proofs.two_threads.driver_thread.drive.Given as goal

abbrev pub invariant-loop : goal.invariant-loop
invariant-loop g l = l.driver.table ≡ l.ring
