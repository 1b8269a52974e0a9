-- A step of the handshake: the record has one more event, and the state follows it.
use Rattle.std.proofs.Common.{ap, sym, ◌∙◌, subst}
use Rattle.std.specs.Box.{boxed_slice_items}
use Rattle.ring_model.specs.declared.states.DriverState.{DriverState}
use Rattle.shared_ring.specs.Calls.{MayControlStep, control_event, after_control_step}
use Rattle.shared_ring.specs.Ends.{driver_of}
use Rattle.shared_ring.specs.Words.{control_word}
use Rattle.shared_ring.proofs.Posting.{record-after, known-after, control_stepped-record, control_stepped-known}
use Rattle.tx_ring.specs.Records.{TxDriven}
use Rattle.tx_ring.specs.Ends.{DriverSide, driver_record, driver_state, known_of}
use Rattle.tx_ring.specs.Calls.{IsDriverEnd}
use Rattle.tx_ring.specs.Form.{tx}
use Rattle.tx_ring.proofs.DriverEnds.{end-control_step}
use Rattle.tx_ring.proofs.driver.TxDriverEndDriverEndTxDriverOwnTxControllerOwnTxRule.control_step.Goals as goal

pub invariant_of-self : goal.invariant_of-self
invariant_of-self c = let i = c.self.inside in subst (λ (s : DriverState). IsDriverEnd (driver_of tx c.control_step.new.self) (record i.at { state = s }) i.seen i.done i.unseen i.whole (boxed_slice_items i.asks) i.passed) (sym c.control_step.ensures.state)
    (end-control_step (driver_of tx i.seat) (driver_of tx c.control_step.new.self) i.at i.seen i.done i.unseen i.whole (boxed_slice_items i.asks) i.passed c.args.step (control_word c.control_step.result) (ap (driver_of tx) c.control_step.ensures.step) (subst (λ (s : DriverSide). MayControlStep c.args.step (driver_state s)) (sym c.self.view_is) c.requires.may) c.self.invariant)

pub returns-clause-record : goal.returns-clause-record
returns-clause-record c = let i = c.self.inside in let w = control_word c.control_step.result in record-after (driver_of tx i.seat) (driver_of tx c.control_step.new.self) (control_event c.args.step w) (ap (driver_of tx) c.control_step.ensures.step) ∙ control_stepped-record (driver_of tx i.seat) c.args.step w
    ∙ ap (λ (s : DriverSide). let x : TxDriven = record (driver_record s) { state = after_control_step c.args.step (driver_state s) w } in x) c.self.view_is

pub returns-clause-known : goal.returns-clause-known
returns-clause-known c = let i = c.self.inside in let w = control_word c.control_step.result in known-after (driver_of tx i.seat) (driver_of tx c.control_step.new.self) (control_event c.args.step w) (ap (driver_of tx) c.control_step.ensures.step) ∙ control_stepped-known (driver_of tx i.seat) c.args.step w ∙ ap (λ (s : DriverSide). known_of s) c.self.view_is
