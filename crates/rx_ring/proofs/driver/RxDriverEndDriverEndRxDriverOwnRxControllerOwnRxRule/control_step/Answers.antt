-- A step of the handshake: the record has one more event, and the state follows it.
use Rattle.std.proofs.Common.{ap, sym, ◌∙◌, subst}
use Rattle.ring_model.specs.declared.states.DriverState.{DriverState}
use Rattle.shared_ring.specs.Calls.{MayControlStep, control_event, after_control_step}
use Rattle.shared_ring.specs.Ends.{driver_of}
use Rattle.shared_ring.specs.Words.{control_word}
use Rattle.shared_ring.proofs.Posting.{record-after, known-after, control_stepped-record, control_stepped-known}
use Rattle.rx_ring.specs.Records.{RxDriven}
use Rattle.rx_ring.specs.Ends.{DriverSide, driver_record, driver_state, known_of}
use Rattle.rx_ring.specs.Calls.{IsDriverEnd}
use Rattle.rx_ring.specs.Form.{rx}
use Rattle.rx_ring.proofs.DriverEnds.{end-control_step}
use Rattle.rx_ring.proofs.driver.RxDriverEndDriverEndRxDriverOwnRxControllerOwnRxRule.control_step.Goals as goal

pub invariant_of-self : goal.invariant_of-self
invariant_of-self c = let i = c.self.inside in subst (λ (s : DriverState). IsDriverEnd (driver_of rx c.control_step.new.self) (record i.at { state = s })) (sym c.control_step.ensures.state)
    (end-control_step (driver_of rx i.seat) (driver_of rx c.control_step.new.self) i.at c.args.step (control_word c.control_step.result) (ap (driver_of rx) c.control_step.ensures.step) (subst (λ (s : DriverSide). MayControlStep c.args.step (driver_state s)) (sym c.self.view_is) c.requires.may) c.self.invariant)

pub returns-clause-record : goal.returns-clause-record
returns-clause-record c = let i = c.self.inside in let w = control_word c.control_step.result in record-after (driver_of rx i.seat) (driver_of rx c.control_step.new.self) (control_event c.args.step w) (ap (driver_of rx) c.control_step.ensures.step) ∙ control_stepped-record (driver_of rx i.seat) c.args.step w
    ∙ ap (λ (s : DriverSide). let x : RxDriven = record (driver_record s) { state = after_control_step c.args.step (driver_state s) w } in x) c.self.view_is

pub returns-clause-known : goal.returns-clause-known
returns-clause-known c = let i = c.self.inside in let w = control_word c.control_step.result in known-after (driver_of rx i.seat) (driver_of rx c.control_step.new.self) (control_event c.args.step w) (ap (driver_of rx) c.control_step.ensures.step) ∙ control_stepped-known (driver_of rx i.seat) c.args.step w ∙ ap (λ (s : DriverSide). known_of s) c.self.view_is
