-- The step keeps the rule, and the record has one more event.
use Rattle.std.proofs.Common.{refl}
use Rattle.shared_ring.specs.declared.events.DriverEvent.TheVariants as driver
use Rattle.shared_ring.proofs.DriverSeats.{clear_head-asks, same-keeps}
use Rattle.shared_ring.proofs.steps.driver.EndSeat+DriverEvent+D+D+C+R.clear_head.Goals as goal

pub store-requires : goal.store-requires
store-requires g c = let i = c.self.inside in clear_head-asks g.R.Direction.form i.seat.table_id i.seat.me i.size i.completion c.self.invariant c.args.self.now c.self.view_is c.ring.inside.table.shared.table_id c.ring.inside.table.shared.key c.ring.invariant.of_key c.args.ring.now c.ring.view_is c.requires.own i.seat.id c.requires.stopped c.requires.back

pub invariant_of-self : goal.invariant_of-self
invariant_of-self g c = let i = c.self.inside in same-keeps g.R.Direction.form i.seat.table_id i.seat.me i.size i.completion c.self.invariant driver.ClearedHead c.store.new.seat.table_id c.store.new.seat.me c.store.ensures.same.0 c.store.ensures.told.seat (record { posted = refl; reaped = refl; reclaimed = refl })
