-- The step keeps the rule, and the buffer that lies there comes out.
use Rattle.std.proofs.Common.{◌∙◌}
use Rattle.shared_ring.proofs.DriverSeats.{clear_own-asks, clear_own-keeps, clear_own-steps, clear_own-told}
use Rattle.shared_ring.proofs.steps.own.EndSeat+DriverEvent+D+D+C+R.clear_own.Goals as goal

pub store-requires : goal.store-requires
store-requires g c = let i = c.self.inside in clear_own-asks g.R.Direction.form i.seat.table_id i.seat.me i.size i.completion c.self.invariant c.args.self.now c.self.view_is c.ring.inside.table.shared.table_id c.ring.inside.table.shared.key c.ring.invariant.of_key c.args.ring.now c.ring.view_is c.requires.own g.P.OwnStep.event g.P.OwnStep.tells c.args.place c.requires.place c.requires.out c.requires.may i.seat.id

pub invariant_of-self : goal.invariant_of-self
invariant_of-self g c = let i = c.self.inside in clear_own-keeps g.R.Direction.form i.seat.table_id i.seat.me i.size i.completion c.self.invariant c.args.self.now c.self.view_is c.ring.inside.table.shared.table_id c.ring.inside.table.shared.key c.ring.invariant.of_key c.args.ring.now c.ring.view_is c.requires.own g.P.OwnStep.event g.P.OwnStep.tells c.args.place c.requires.place c.requires.out c.requires.may c.take_out-buf.result c.turn.new.self.table_id c.store.new.seat.me c.take_out-buf.new.seat.me c.turn.new.self.me (c.turn.ensures.0 ∙ c.take_out-buf.ensures.same.0 ∙ c.store.ensures.same.0) c.store.ensures.told c.take_out-buf.ensures.left c.turn.ensures.2

pub returns-clause-step : goal.returns-clause-step
returns-clause-step g c = let i = c.self.inside in clear_own-steps g.R.Direction.form i.seat.table_id i.seat.me i.size i.completion c.self.invariant c.args.self.now c.self.view_is c.ring.inside.table.shared.table_id c.ring.inside.table.shared.key c.ring.invariant.of_key c.args.ring.now c.ring.view_is c.requires.own g.P.OwnStep.event g.P.OwnStep.tells c.args.place c.requires.place c.requires.out c.requires.may c.take_out-buf.result c.turn.new.self.table_id c.store.new.seat.me c.take_out-buf.new.seat.me c.turn.new.self.me (c.turn.ensures.0 ∙ c.take_out-buf.ensures.same.0 ∙ c.store.ensures.same.0) c.store.ensures.told c.take_out-buf.ensures.left c.turn.ensures.2 c.take_out-buf.ensures.taken

pub returns-clause-told : goal.returns-clause-told
returns-clause-told g c = let i = c.self.inside in clear_own-told g.R.Direction.form i.seat.table_id i.seat.me i.size i.completion c.self.invariant c.args.self.now c.self.view_is c.ring.inside.table.shared.table_id c.ring.inside.table.shared.key c.ring.invariant.of_key c.args.ring.now c.ring.view_is c.requires.own g.P.OwnStep.event g.P.OwnStep.tells c.args.place c.requires.place c.requires.out c.requires.may c.take_out-buf.result c.turn.new.self.table_id c.store.new.seat.me c.take_out-buf.new.seat.me c.turn.new.self.me (c.turn.ensures.0 ∙ c.take_out-buf.ensures.same.0 ∙ c.store.ensures.same.0) c.store.ensures.told c.take_out-buf.ensures.left c.turn.ensures.2 c.take_out-buf.ensures.taken
