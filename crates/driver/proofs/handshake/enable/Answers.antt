-- An enabling is asked where nothing was asked yet.
use Rattle.std.proofs.Common.{◌∙◌, ap, sym, subst}
use Rattle.ring_model.specs.shared.Handshakes.{is_new}
use Rattle.shared_ring.specs.Ends.{DriverSide, driver_of, driver_record, driver_state}
use Rattle.shared_ring.specs.Words.{control_word}
use Rattle.driver.specs.Handshake.{AskedEnabling}
use Rattle.driver.proofs.ControlStepping.{enabling-new, enabling-asked}
use Rattle.driver.proofs.handshake.enable.Goals as goal
use Rattle.driver.proofs.handshake.enable.Goals.{then-is_new, else-is_new}

pub returns-clause-open : goal.returns-clause-open
returns-clause-open o c =
    let old : DriverSide o.R.Direction.form = driver_of o.R.Direction.form (o.E.DriverEnd.side c.args.end.now) in
    let mid : DriverSide o.R.Direction.form = driver_of o.R.Direction.form (o.E.DriverEnd.side c.if-is_new.end) in
    let new : DriverSide o.R.Direction.form = driver_of o.R.Direction.form (o.E.DriverEnd.side c.state.new.self) in
    let looked = c.state.ensures in
    λ opened. elim c.if-is_new.branch [
      | then-is_new w ↦ enabling-new old mid new (control_word c.state.result) (sym c.is_new.ensures ∙ w.if-is_new.true)
          (ap (λ e. driver_of o.R.Direction.form (o.E.DriverEnd.side e)) w.end-is ∙ w.ask_enable.ensures.step)
          (ap (λ e. driver_record (driver_of o.R.Direction.form (o.E.DriverEnd.side e))) w.end-is ∙ w.ask_enable.ensures.record) looked.step looked.record
      | else-is_new w ↦ subst (λ (d : DriverSide o.R.Direction.form). AskedEnabling d new) (ap (λ e. driver_of o.R.Direction.form (o.E.DriverEnd.side e)) w.end-is)
          (enabling-asked mid new (control_word c.state.result)
          (ap (λ e. is_new (driver_state (driver_of o.R.Direction.form (o.E.DriverEnd.side e)))) w.end-is ∙ (sym c.is_new.ensures ∙ w.if-is_new.false)) looked.step looked.record)
    ]
