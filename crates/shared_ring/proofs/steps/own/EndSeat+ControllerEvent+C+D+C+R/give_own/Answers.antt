-- The seat's own slot is in front; the step keeps the rule, and the record has one more event.
use Rattle.std.proofs.Common.{◌∙◌}
use Rattle.shared_ring.proofs.ControllerSeats.{give_own-empty, give_own-asks, give_own-keeps, give_own-steps}
use Rattle.shared_ring.proofs.steps.own.EndSeat+ControllerEvent+C+D+C+R.give_own.Goals as goal

pub put_in-requires-clause-empty : goal.put_in-requires-clause-empty
put_in-requires-clause-empty g c = let i = c.self.inside in give_own-empty g.R.Direction.form i.seat.table_id i.seat.me i.size i.completion c.self.invariant c.args.self.now c.self.view_is c.ring.inside.table.shared.table_id c.ring.inside.table.shared.key c.ring.invariant.of_key c.args.ring.now c.ring.view_is c.requires.own g.P.OwnStep.event c.args.index c.args.value c.args.place c.args.buf c.requires.place c.requires.held

pub store-requires : goal.store-requires
store-requires g c = let i = c.self.inside in give_own-asks g.R.Direction.form i.seat.table_id i.seat.me i.size i.completion c.self.invariant c.args.self.now c.self.view_is c.ring.inside.table.shared.table_id c.ring.inside.table.shared.key c.ring.invariant.of_key c.args.ring.now c.ring.view_is c.requires.own g.P.OwnStep.event c.args.index c.args.value c.args.place c.args.buf c.requires.place c.requires.held c.requires.may c.put_in.new.seat.id c.put_in.new.seat.table_id c.put_in.new.seat.me c.put_in.ensures.same.0 c.put_in.ensures.put

pub invariant_of-self : goal.invariant_of-self
invariant_of-self g c = let i = c.self.inside in give_own-keeps g.R.Direction.form i.seat.table_id i.seat.me i.size i.completion c.self.invariant c.args.self.now c.self.view_is c.ring.inside.table.shared.table_id c.ring.inside.table.shared.key c.ring.invariant.of_key c.args.ring.now c.ring.view_is c.requires.own g.P.OwnStep.event c.args.index c.args.value c.args.place c.args.buf c.requires.place c.requires.held c.requires.may c.store.new.seat.table_id c.put_in.new.seat.me c.store.new.seat.me (c.store.ensures.same.0 ∙ c.put_in.ensures.same.0) c.put_in.ensures.put c.store.ensures.told.seat

pub returns : goal.returns
returns g c = let i = c.self.inside in give_own-steps g.R.Direction.form i.seat.table_id i.seat.me i.size i.completion c.self.invariant c.args.self.now c.self.view_is c.ring.inside.table.shared.table_id c.ring.inside.table.shared.key c.ring.invariant.of_key c.args.ring.now c.ring.view_is c.requires.own g.P.OwnStep.event c.args.index c.args.value c.args.place c.args.buf c.requires.place c.requires.held c.requires.may c.store.new.seat.table_id c.put_in.new.seat.me c.store.new.seat.me (c.store.ensures.same.0 ∙ c.put_in.ensures.same.0) c.put_in.ensures.put c.store.ensures.told.seat
