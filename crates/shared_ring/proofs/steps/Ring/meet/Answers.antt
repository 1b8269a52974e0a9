-- The driver's seat takes in the controller's record, one load tells of both, and the record goes back.
use Rattle.std.proofs.Common.{◌≡◌, sym, ap, ◌∙◌}
use Rattle.shared_ring.specs.Seats.{driver_part, controller_part}
use Rattle.shared_ring.proofs.Meeting.{some-words, meet-asks, halve-asks, return-asks}
use Rattle.shared_ring.proofs.steps.Ring.meet.Goals as goal

pub unite-requires-clause-driver : goal.unite-requires-clause-driver
unite-requires-clause-driver g c = (ap (λ e. e.table) c.driver.view_is ∙ c.requires.driver ∙ sym c.self.view_is, ap (λ m. m.0) c.driver.invariant.me_is)

pub unite-requires-clause-controller : goal.unite-requires-clause-controller
unite-requires-clause-controller g c = (ap (λ e. e.table) c.controller.view_is ∙ c.requires.controller ∙ sym c.self.view_is, ap (λ m. m.0) c.controller.invariant.me_is)

pub load-requires : goal.load-requires
load-requires g c =
    let own : c.driver.inside.seat.table_id ≡ c.self.inside.table.shared.table_id = ap (λ e. e.table) c.driver.view_is ∙ c.requires.driver ∙ sym c.self.view_is in (
      c.unite.ensures.driver.0 ∙ own,
      some-words c.self.inside.table.shared.table_id c.self.inside.table.shared.key c.self.invariant.of_key,
      meet-asks g.R.Direction.form c.self.invariant.law c.self.inside.table.shared.key c.self.inside.table.shared.table_id.slots c.unite.new.driver.id c.unite.new.driver.me (driver_part c.driver.inside.seat.me.0) (controller_part c.controller.inside.seat.me.0) c.driver.inside.seat.me.1
          c.self.invariant.of_key.slots c.unite.ensures.driver.1,
    )

pub split_seat-lent-requires : goal.split_seat-lent-requires
split_seat-lent-requires g c =
    let own : c.driver.inside.seat.table_id ≡ c.self.inside.table.shared.table_id = ap (λ e. e.table) c.driver.view_is ∙ c.requires.driver ∙ sym c.self.view_is in (
      c.load.ensures.0 ∙ c.unite.ensures.driver.0 ∙ own,
      some-words c.self.inside.table.shared.table_id c.self.inside.table.shared.key c.self.invariant.of_key,
      halve-asks g.R.Direction.form c.self.invariant.law c.self.inside.table.shared.key c.load.new.seat.id c.load.new.seat.me.0 (driver_part c.driver.inside.seat.me.0) (controller_part c.controller.inside.seat.me.0)
          (ap (λ m. m.0) c.load.ensures.2.same ∙ ap (λ m. m.0) c.unite.ensures.driver.1),
    )

pub join_seat-requires : goal.join_seat-requires
join_seat-requires g c =
    let theirs : c.controller.inside.seat.table_id ≡ c.self.inside.table.shared.table_id = ap (λ e. e.table) c.controller.view_is ∙ c.requires.controller ∙ sym c.self.view_is in
    let own : c.driver.inside.seat.table_id ≡ c.self.inside.table.shared.table_id = ap (λ e. e.table) c.driver.view_is ∙ c.requires.driver ∙ sym c.self.view_is in
    let lent = c.split_seat-lent.ensures in (
      c.unite.ensures.controller.0 ∙ theirs,
      lent.3 ∙ c.load.ensures.0 ∙ c.unite.ensures.driver.0 ∙ own,
      ap (λ m. m.1) lent.4,
      some-words c.self.inside.table.shared.table_id c.self.inside.table.shared.key c.self.invariant.of_key,
      return-asks g.R.Direction.form c.self.invariant.law c.self.inside.table.shared.key c.unite.new.controller.id c.split_seat-lent.result.id c.unite.new.controller.me.0 c.split_seat-lent.result.me.0 (controller_part c.load.new.seat.me.0)
          (ap (λ m. m.0) c.unite.ensures.controller.1) (ap (λ m. m.0) lent.4),
    )
