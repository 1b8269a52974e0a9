-- The load keeps the rule; where the word is done, the buffer that lies there comes out.
use Rattle.std.proofs.Common.{◌∙◌, sym}
use Rattle.shared_ring.proofs.DriverSeats.{take_own-asks, missed-keeps, take_own-keeps}
use Rattle.shared_ring.proofs.steps.own.EndSeat+DriverEvent+D+D+C+R.take_own.Goals as goal

pub load-word-requires : goal.load-word-requires
load-word-requires g c = let i = c.self.inside in take_own-asks g.R.Direction.form i.seat.table_id i.seat.me i.size i.completion c.self.invariant c.args.self.now c.self.view_is c.ring.inside.table.shared.table_id c.ring.inside.table.shared.key c.ring.invariant.of_key c.args.ring.now c.ring.view_is c.requires.own g.P.OwnStep.event g.P.OwnStep.tells c.args.place c.requires.place c.requires.out g.P.OwnTake.missed g.P.OwnTake.done c.requires.may i.seat.id

pub invariant_of-self : goal.invariant_of-self
invariant_of-self g c = let i = c.self.inside in missed-keeps g.R.Direction.form i.seat.table_id i.seat.me i.size i.completion c.self.invariant c.args.self.now c.self.view_is c.ring.inside.table.shared.table_id c.ring.inside.table.shared.key c.ring.invariant.of_key c.args.ring.now c.ring.view_is c.requires.own g.P.OwnStep.event g.P.OwnStep.tells c.args.place c.requires.place c.requires.out g.P.OwnTake.missed g.P.OwnTake.done c.requires.may c.load-word.result c.load-word.new.seat.me c.load-word.ensures.told c.load-word.new.seat.table_id c.load-word.ensures.same.0 (sym c.is_done.ensures ∙ c.if-not-is_done.true)

pub invariant_of-self-2 : goal.invariant_of-self-2
invariant_of-self-2 g c = let i = c.self.inside in take_own-keeps g.R.Direction.form i.seat.table_id i.seat.me i.size i.completion c.self.invariant c.args.self.now c.self.view_is c.ring.inside.table.shared.table_id c.ring.inside.table.shared.key c.ring.invariant.of_key c.args.ring.now c.ring.view_is c.requires.own g.P.OwnStep.event g.P.OwnStep.tells c.args.place c.requires.place c.requires.out g.P.OwnTake.missed g.P.OwnTake.done c.requires.may c.load-word.result c.load-word.new.seat.me c.load-word.ensures.told c.take_out-buf.result c.turn.new.self.table_id c.take_out-buf.new.seat.me c.turn.new.self.me (c.turn.ensures.0 ∙ c.take_out-buf.ensures.same.0 ∙ c.load-word.ensures.same.0) (sym c.is_done.ensures ∙ c.if-not-is_done.false) c.take_out-buf.ensures.left c.turn.ensures.2
