-- The load keeps the rule, and the buffer comes out.
use Rattle.std.proofs.Common.{◌∙◌}
use Rattle.shared_ring.proofs.ControllerSeats.{fetch-asks, fetch-keeps, fetch-steps}
use Rattle.shared_ring.proofs.steps.controller.EndSeat+ControllerEvent+C+D+C+R.fetch.Goals as goal

pub load-word-requires : goal.load-word-requires
load-word-requires g c = let i = c.self.inside in fetch-asks g.R.Direction.form i.seat.table_id i.seat.me i.size i.completion c.self.invariant c.args.self.now c.self.view_is c.ring.inside.table.shared.table_id c.ring.inside.table.shared.key c.ring.invariant.of_key c.args.ring.now c.ring.view_is c.requires.own i.seat.id c.args.place c.requires.place c.requires.serving c.requires.ahead c.requires.held c.requires.free

pub invariant_of-self : goal.invariant_of-self
invariant_of-self g c = let i = c.self.inside in fetch-keeps g.R.Direction.form i.seat.table_id i.seat.me i.size i.completion c.self.invariant c.args.self.now c.self.view_is c.ring.inside.table.shared.table_id c.ring.inside.table.shared.key c.ring.invariant.of_key c.args.ring.now c.ring.view_is c.requires.own c.args.place c.load-word.result c.take_out-buf.new.seat.table_id c.load-word.new.seat.me c.take_out-buf.new.seat.me (c.take_out-buf.ensures.same.0 ∙ c.load-word.ensures.same.0) c.load-word.ensures.told c.take_out-buf.ensures.left c.requires.place c.requires.held

pub returns : goal.returns
returns g c = let i = c.self.inside in fetch-steps g.R.Direction.form i.seat.table_id i.seat.me i.size i.completion c.self.invariant c.args.self.now c.self.view_is c.ring.inside.table.shared.table_id c.ring.inside.table.shared.key c.ring.invariant.of_key c.args.ring.now c.ring.view_is c.requires.own c.args.place c.load-word.result c.take_out-buf.new.seat.table_id c.load-word.new.seat.me c.take_out-buf.new.seat.me (c.take_out-buf.ensures.same.0 ∙ c.load-word.ensures.same.0) c.load-word.ensures.told c.take_out-buf.ensures.left c.take_out-buf.result c.take_out-buf.ensures.taken
