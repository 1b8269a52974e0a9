-- The step keeps the rule, and the record has one more event.
use Rattle.shared_ring.proofs.DriverSeats.{load_own-asks, load_own-keeps, load_own-steps, load_own-told}
use Rattle.shared_ring.proofs.steps.own.EndSeat+DriverEvent+D+D+C+R.load_own.Goals as goal

pub load-requires : goal.load-requires
load-requires g c = let i = c.self.inside in load_own-asks g.R.Direction.form i.seat.table_id i.seat.me i.size i.completion c.self.invariant c.args.self.now c.self.view_is c.ring.inside.table.shared.table_id c.ring.inside.table.shared.key c.ring.invariant.of_key c.args.ring.now c.ring.view_is c.requires.own g.P.OwnStep.event g.P.OwnStep.tells c.args.index c.requires.may i.seat.id

pub invariant_of-self : goal.invariant_of-self
invariant_of-self g c = let i = c.self.inside in load_own-keeps g.R.Direction.form i.seat.table_id i.seat.me i.size i.completion c.self.invariant c.args.self.now c.self.view_is c.ring.inside.table.shared.table_id c.ring.inside.table.shared.key c.ring.invariant.of_key c.args.ring.now c.ring.view_is c.requires.own g.P.OwnStep.event g.P.OwnStep.tells c.args.index c.requires.may c.load.result c.load.new.seat.me c.load.ensures.told c.load.new.seat.table_id c.load.ensures.same.0

pub returns-clause-step : goal.returns-clause-step
returns-clause-step g c = let i = c.self.inside in load_own-steps g.R.Direction.form i.seat.table_id i.seat.me i.size i.completion c.self.invariant c.args.self.now c.self.view_is c.ring.inside.table.shared.table_id c.ring.inside.table.shared.key c.ring.invariant.of_key c.args.ring.now c.ring.view_is c.requires.own g.P.OwnStep.event g.P.OwnStep.tells c.args.index c.requires.may c.load.result c.load.new.seat.me c.load.ensures.told c.load.new.seat.table_id c.load.ensures.same.0

pub returns-clause-told : goal.returns-clause-told
returns-clause-told g c = let i = c.self.inside in load_own-told g.R.Direction.form i.seat.table_id i.seat.me i.size i.completion c.self.invariant c.args.self.now c.self.view_is c.ring.inside.table.shared.table_id c.ring.inside.table.shared.key c.ring.invariant.of_key c.args.ring.now c.ring.view_is c.requires.own g.P.OwnStep.event g.P.OwnStep.tells c.args.index c.requires.may c.load.result c.load.new.seat.me c.load.ensures.told
