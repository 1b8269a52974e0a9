-- The controller's seat lends its record, and the driver's takes it in.
use Rattle.std.proofs.Common.{ap, ◌∙◌}
use Rattle.shared_ring.specs.Seats.{driver_part, controller_part}
use Rattle.shared_ring.proofs.Meeting.{some-words, lend-asks, unite-asks}
use Rattle.shared_ring.proofs.steps.gathering.unite.Goals as goal

pub split_seat-lent-requires : goal.split_seat-lent-requires
split_seat-lent-requires g c = let t = c.args.table.now.shared in let other = c.args.controller.now in (
  c.requires.controller.0,
  some-words t.table_id t.key c.requires.of_key,
  lend-asks g.R.Direction.form c.requires.law t.key other.id other.me.0 (controller_part other.me.0) c.requires.controller.1,
)

pub join_seat-requires : goal.join_seat-requires
join_seat-requires g c = let t = c.args.table.now.shared in let seat = c.args.driver.now in let lent = c.split_seat-lent.ensures in (
  c.requires.driver.0,
  lent.3 ∙ c.requires.controller.0,
  ap (λ m. m.1) lent.4,
  some-words t.table_id t.key c.requires.of_key,
  unite-asks g.R.Direction.form c.requires.law t.key seat.id c.split_seat-lent.result.id seat.me.0 c.split_seat-lent.result.me.0 (driver_part seat.me.0) (controller_part c.args.controller.now.me.0)
      c.requires.driver.1 (ap (λ m. m.0) lent.4 ∙ c.requires.controller.1),
)
