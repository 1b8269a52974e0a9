-- The oldest buffer that is out lies in the stash.
use Rattle.std.proofs.Common.{rules, ◌≡◌, ◌∙◌, true, ap, refl}
use Rattle.ring_model.specs.shared.Handshakes.{is_stopped}
use Rattle.shared_ring.specs.Ends.{DriverSide, driver_of, driver_state}
use Rattle.shared_ring.specs.Records.{Driven}
use Rattle.driver.proofs.Returning.{back-none, back-one, fewer-out}
use Rattle.driver.proofs.reclaiming.empty_ring.Goals as goal

pub loop-end-init : goal.loop-end-init
loop-end-init o c =
    let d : DriverSide o.R.Direction.form = driver_of o.R.Direction.form (o.E.DriverEnd.side c.args.end.now) in
    let stopped : is_stopped (driver_state d) ≡ true = search rules in
    record {
      own = refl;
      stopped = stopped;
      back = back-none o.number d c.args.stash.now;
      known = refl;
    }

pub loop-end-preserved : goal.loop-end-preserved
loop-end-preserved o c =
    let old : DriverSide o.R.Direction.form = driver_of o.R.Direction.form (o.E.DriverEnd.side c.args.end.now) in
    let now : DriverSide o.R.Direction.form = driver_of o.R.Direction.form (o.E.DriverEnd.side c.loop-end.end) in
    let new : DriverSide o.R.Direction.form = driver_of o.R.Direction.form (o.E.DriverEnd.side c.take_back.new.self) in
    let home = c.in-Some.ensures in
    record {
      own = ap (λ (d : DriverSide o.R.Direction.form). d.table) home.step ∙ c.loop-end.invariant.own;
      stopped = ap (λ (x : Driven o.R.Direction.Posted o.R.Direction.Reaped). is_stopped x.state) home.same ∙ c.loop-end.invariant.stopped;
      back = back-one o.number old c.args.stash.now now c.loop-end.stash new c.push.new.self c.in-Some.buf
          c.loop-end.invariant.back home (c.requires.1.1.1.1.1.0 home.item c.in-Some.buf home.is_of) c.push.ensures;
      known = home.known ∙ c.loop-end.invariant.known;
    }

pub loop-end-smaller : goal.loop-end-smaller
loop-end-smaller o c =
    fewer-out (driver_of o.R.Direction.form (o.E.DriverEnd.side c.loop-end.end)) (driver_of o.R.Direction.form (o.E.DriverEnd.side c.take_back.new.self)) c.in-Some.buf c.in-Some.ensures
