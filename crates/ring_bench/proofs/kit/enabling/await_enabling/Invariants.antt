use Rattle.std.proofs.Common.{◌≡◌}
use Rattle.shared_ring.specs.Ends.{driver_of, driver_record, driver_state}
use Rattle.ring_bench.proofs.kit.enabling.await_enabling.Given as goal

abbrev pub invariant-loop : goal.invariant-loop
invariant-loop g l = record {
  own : (g.E.DriverEnd.side l.driver).table ≡ g.E.Ring.SharedRing.table l.ring;
  one_ring : (g.E.DriverEnd.side l.driver).table ≡ (g.E.DriverEnd.side l.fn.driver).table;
  reports : (g.E.DriverEnd.side l.driver).completion ≡ (g.E.DriverEnd.side l.fn.driver).completion;
  same : driver_record (driver_of g.R.Direction.form (g.E.DriverEnd.side l.driver)) ≡ record (driver_record (driver_of g.R.Direction.form (g.E.DriverEnd.side l.fn.driver))) { state = driver_state (driver_of g.R.Direction.form (g.E.DriverEnd.side l.driver)) };
}
