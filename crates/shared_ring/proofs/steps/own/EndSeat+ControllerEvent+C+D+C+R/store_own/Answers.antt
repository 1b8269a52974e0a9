-- The step keeps the rule, and the record has one more event.
use Rattle.shared_ring.proofs.ControllerSeats.{store_own-asks, store_own-keeps, store_own-steps}
use Rattle.shared_ring.proofs.steps.own.EndSeat+ControllerEvent+C+D+C+R.store_own.Goals as goal

pub store-requires : goal.store-requires
store-requires g c = let i = c.self.inside in store_own-asks g.R.Direction.form i.seat.table_id i.seat.me i.size i.completion c.self.invariant c.args.self.now c.self.view_is c.ring.inside.table.shared.table_id c.ring.inside.table.shared.key c.ring.invariant.of_key c.args.ring.now c.ring.view_is c.requires.own g.P.OwnStep.event c.args.index c.args.value c.requires.may i.seat.id

pub invariant_of-self : goal.invariant_of-self
invariant_of-self g c = let i = c.self.inside in store_own-keeps g.R.Direction.form i.seat.table_id i.seat.me i.size i.completion c.self.invariant c.args.self.now c.self.view_is c.ring.inside.table.shared.table_id c.ring.inside.table.shared.key c.ring.invariant.of_key c.args.ring.now c.ring.view_is c.requires.own g.P.OwnStep.event c.args.index c.args.value c.requires.may c.store.new.seat.table_id c.store.new.seat.me c.store.ensures.same.0 c.store.ensures.told.seat

pub returns : goal.returns
returns g c = let i = c.self.inside in store_own-steps g.R.Direction.form i.seat.table_id i.seat.me i.size i.completion c.self.invariant c.args.self.now c.self.view_is c.ring.inside.table.shared.table_id c.ring.inside.table.shared.key c.ring.invariant.of_key c.args.ring.now c.ring.view_is c.requires.own g.P.OwnStep.event c.args.index c.args.value c.requires.may c.store.new.seat.table_id c.store.new.seat.me c.store.ensures.same.0 c.store.ensures.told.seat
