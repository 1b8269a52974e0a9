-- The step keeps the rule, and the slots are turned until that of place 0 stands in front.
use Rattle.std.proofs.Common.{◌∙◌}
use Rattle.shared_ring.proofs.DriverSeats.{turn-below, end_own-asks, turn-asks, end_own-keeps, end_own-steps}
use Rattle.shared_ring.proofs.steps.own.EndSeat+DriverEvent+D+D+C+R.end_own.Goals as goal

pub store-requires : goal.store-requires
store-requires g c = let i = c.self.inside in end_own-asks g.R.Direction.form i.seat.table_id i.seat.me i.size i.completion c.self.invariant c.args.self.now c.self.view_is c.ring.inside.table.shared.table_id c.ring.inside.table.shared.key c.ring.invariant.of_key c.args.ring.now c.ring.view_is c.requires.own g.P.OwnStep.event g.P.OwnStep.tells c.args.index c.requires.may i.seat.id

pub turn_round-requires-clause-place : goal.turn_round-requires-clause-place
turn_round-requires-clause-place g c = let i = c.self.inside in turn-below g.R.Direction.form i.seat.table_id i.seat.me i.size i.completion c.self.invariant c.args.self.now c.self.view_is c.args.fill c.requires.place

pub turn_round-requires-clause-all : goal.turn_round-requires-clause-all
turn_round-requires-clause-all g c = let i = c.self.inside in turn-asks g.R.Direction.form i.seat.table_id i.seat.me i.size i.completion c.self.invariant c.args.self.now c.self.view_is c.ring.inside.table.shared.table_id c.ring.inside.table.shared.key c.ring.invariant.of_key c.args.ring.now c.ring.view_is c.requires.own g.P.OwnStep.event g.P.OwnStep.tells c.args.index c.requires.may c.store.new.seat.me c.store.ensures.told.seat c.args.fill c.requires.place c.requires.back

pub invariant_of-self : goal.invariant_of-self
invariant_of-self g c = let i = c.self.inside in end_own-keeps g.R.Direction.form i.seat.table_id i.seat.me i.size i.completion c.self.invariant c.args.self.now c.self.view_is c.ring.inside.table.shared.table_id c.ring.inside.table.shared.key c.ring.invariant.of_key c.args.ring.now c.ring.view_is c.requires.own g.P.OwnStep.event g.P.OwnStep.tells c.args.index c.requires.may c.store.new.seat.me c.store.ensures.told.seat c.turn_round.new.seat.table_id c.turn_round.new.seat.me (c.turn_round.ensures.same.0 ∙ c.store.ensures.same.0) c.turn_round.ensures.same.2 c.turn_round.ensures.turned

pub returns : goal.returns
returns g c = let i = c.self.inside in end_own-steps g.R.Direction.form i.seat.table_id i.seat.me i.size i.completion c.self.invariant c.args.self.now c.self.view_is c.ring.inside.table.shared.table_id c.ring.inside.table.shared.key c.ring.invariant.of_key c.args.ring.now c.ring.view_is c.requires.own g.P.OwnStep.event g.P.OwnStep.tells c.args.index c.requires.may c.store.new.seat.me c.store.ensures.told.seat c.turn_round.new.seat.table_id c.turn_round.new.seat.me (c.turn_round.ensures.same.0 ∙ c.store.ensures.same.0) c.turn_round.ensures.same.2 c.turn_round.ensures.turned
