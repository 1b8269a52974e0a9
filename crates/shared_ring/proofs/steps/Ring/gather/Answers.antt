-- The driver's seat takes in the controller's record, and the last state of the table has both.
use Rattle.std.proofs.Common.{◌≡◌, sym, ap, ◌∙◌}
use Rattle.shared_ring.specs.Seats.{driver_part, controller_part}
use Rattle.shared_ring.proofs.Meeting.{left-at}
use Rattle.shared_ring.proofs.steps.Ring.gather.Goals as goal

pub unite-requires-clause-driver : goal.unite-requires-clause-driver
unite-requires-clause-driver g c = (ap (λ e. e.table) c.driver.view_is ∙ c.requires.driver ∙ sym c.self.view_is, ap (λ m. m.0) c.driver.invariant.me_is)

pub unite-requires-clause-controller : goal.unite-requires-clause-controller
unite-requires-clause-controller g c = (ap (λ e. e.table) c.controller.view_is ∙ c.requires.controller ∙ sym c.self.view_is, ap (λ m. m.0) c.controller.invariant.me_is)

pub returns-clause-left : goal.returns-clause-left
returns-clause-left g c =
    let own : c.driver.inside.seat.table_id ≡ c.self.inside.table.shared.table_id = ap (λ e. e.table) c.driver.view_is ∙ c.requires.driver ∙ sym c.self.view_is in
    left-at g.R.Direction.form c.self.invariant.law c.args.driver.table.slots c.self.inside.table.shared.key c.unite.new.driver.id c.unite.new.driver.me.0 (driver_part c.driver.inside.seat.me.0) c.args.driver.events (controller_part c.controller.inside.seat.me.0) c.args.controller.events _ _
    (ap (λ m. m.0) c.unite.ensures.driver.1)
    (sym c.self.invariant.of_key.slots ∙ ap (λ z. z.slots) (sym own) ∙ ap (λ s. s.table.slots) c.driver.view_is)
    (ap (λ s. s.events) c.driver.view_is)
    (ap (λ s. s.events) c.controller.view_is)
    c.close_with.ensures.values.2
