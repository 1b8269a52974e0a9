-- What the two records of one ring tell together.
use Rattle.std.proofs.Common.{◌≤◌, sym, ◌∙◌, subst, arith}
use Rattle.rx_ring.specs.Ends.{DriverSide, ControllerSide}
use Rattle.rx_ring.specs.Meeting.{Met}
use Rattle.shared_ring.specs.Ends.{driver_of}
use Rattle.rx_ring.specs.Form.{rx}
use Rattle.rx_ring.proofs.Meeting.{met-lawful, met-told}
use Rattle.rx_ring.proofs.making.meet_rx.Goals as goal

pub returns-clause-lawful : goal.returns-clause-lawful
returns-clause-lawful c = let big : 8 ≤ c.size-size.result = c.size-size.ensures.lawful.0 in let s = c.size-size.ensures.value in
    met-lawful c.args.driver.now c.args.controller.now (subst (λ (d : DriverSide). Met d c.args.controller.now) c.driver.view_is (subst (λ (e : ControllerSide). Met (driver_of rx c.driver.inside.seat) e) c.controller.view_is c.meet.ensures.met)) (c.requires.controller ∙ sym c.requires.driver) (omega arith)

pub returns-clause-left : goal.returns-clause-left
returns-clause-left c = let big : 8 ≤ c.size-size.result = c.size-size.ensures.lawful.0 in let s = c.size-size.ensures.value in
    met-told c.args.driver.now c.args.controller.now (subst (λ (d : DriverSide). Met d c.args.controller.now) c.driver.view_is (subst (λ (e : ControllerSide). Met (driver_of rx c.driver.inside.seat) e) c.controller.view_is c.meet.ensures.met)) (c.requires.controller ∙ sym c.requires.driver) (omega arith)
