-- What the two records of one ring tell together.
use Rattle.std.proofs.Common.{◌≤◌, sym, ◌∙◌, subst, arith}
use Rattle.tx_ring.specs.Ends.{DriverSide, ControllerSide}
use Rattle.tx_ring.specs.Meeting.{Met}
use Rattle.shared_ring.specs.Ends.{driver_of}
use Rattle.tx_ring.specs.Form.{tx}
use Rattle.tx_ring.proofs.Meeting.{met-lawful, met-told, met-all}
use Rattle.tx_ring.proofs.making.meet_tx.Goals as goal

pub returns-clause-lawful : goal.returns-clause-lawful
returns-clause-lawful c = let big : 8 ≤ c.size-size.result = c.size-size.ensures.lawful.0 in let s = c.size-size.ensures.value in met-lawful c.args.driver.now c.args.controller.now (subst (λ (d : DriverSide). Met d c.args.controller.now) c.driver.view_is (subst (λ (e : ControllerSide). Met (driver_of tx c.driver.inside.seat) e) c.controller.view_is c.meet.ensures.met)) (c.requires.controller ∙ sym c.requires.driver) (omega arith)

pub returns-clause-left : goal.returns-clause-left
returns-clause-left c = let big : 8 ≤ c.size-size.result = c.size-size.ensures.lawful.0 in let s = c.size-size.ensures.value in met-told c.args.driver.now c.args.controller.now (subst (λ (d : DriverSide). Met d c.args.controller.now) c.driver.view_is (subst (λ (e : ControllerSide). Met (driver_of tx c.driver.inside.seat) e) c.controller.view_is c.meet.ensures.met)) (c.requires.controller ∙ sym c.requires.driver) (omega arith)

pub returns-clause-all : goal.returns-clause-all
returns-clause-all c = let big : 8 ≤ c.size-size.result = c.size-size.ensures.lawful.0 in let s = c.size-size.ensures.value in met-all c.args.driver.now c.args.controller.now (subst (λ (d : DriverSide). Met d c.args.controller.now) c.driver.view_is (subst (λ (e : ControllerSide). Met (driver_of tx c.driver.inside.seat) e) c.controller.view_is c.meet.ensures.met)) (c.requires.controller ∙ sym c.requires.driver) (omega arith)
