use Rattle.std.proofs.Common.{◌≡◌, ◌-◌, true, length}
use Rattle.ring_model.specs.shared.Handshakes.{is_stopped}
use Rattle.shared_ring.specs.Ends.{DriverSide, driver_of, driver_state, posted, returned, known_of}
use Rattle.driver.specs.Reclaiming.{CameBack}
use Rattle.driver.proofs.reclaiming.empty_ring.Given as goal

abbrev pub invariant-loop-end : goal.invariant-loop-end
invariant-loop-end o l =
    let old : DriverSide o.R.Direction.form = driver_of o.R.Direction.form (o.E.DriverEnd.side l.initial.end) in
    let now : DriverSide o.R.Direction.form = driver_of o.R.Direction.form (o.E.DriverEnd.side l.end) in
    record {
      own : now.table ≡ old.table;
      stopped : is_stopped (driver_state now) ≡ true;
      back : CameBack o.number old l.initial.stash now l.stash;
      known : known_of now ≡ known_of old;
    }

abbrev pub decreases-loop-end : goal.decreases-loop-end
decreases-loop-end o l =
    let now : DriverSide o.R.Direction.form = driver_of o.R.Direction.form (o.E.DriverEnd.side l.end) in
    length (posted now) - returned now
