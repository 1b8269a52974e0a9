-- The step keeps the rule, and the record has one more event.
use Rattle.std.proofs.Common.{refl}
use Rattle.shared_ring.specs.declared.events.ControllerEvent.TheVariants as controller
use Rattle.shared_ring.proofs.ControllerSeats.{look-asks, look-steps, same-keeps}
use Rattle.shared_ring.proofs.steps.controller.EndSeat+ControllerEvent+C+D+C+R.look.Goals as goal

pub load-requires : goal.load-requires
load-requires g c = let i = c.self.inside in look-asks g.R.Direction.form i.seat.table_id i.seat.me i.size i.completion c.self.invariant c.args.self.now c.self.view_is c.ring.inside.table.shared.table_id c.ring.inside.table.shared.key c.ring.invariant.of_key c.args.ring.now c.ring.view_is c.requires.own i.seat.id c.requires.serving

pub invariant_of-self : goal.invariant_of-self
invariant_of-self g c = let i = c.self.inside in same-keeps g.R.Direction.form i.seat.table_id i.seat.me i.size i.completion c.self.invariant (controller.Looked c.load.result) c.load.new.seat.table_id c.load.new.seat.me c.load.ensures.same.0 c.load.ensures.told.adds.seat refl

pub returns : goal.returns
returns g c = let i = c.self.inside in look-steps g.R.Direction.form i.seat.table_id i.seat.me i.size i.completion c.self.invariant c.args.self.now c.self.view_is c.ring.inside.table.shared.table_id c.ring.inside.table.shared.key c.ring.invariant.of_key c.args.ring.now c.ring.view_is c.requires.own c.load.result c.load.new.seat.table_id c.load.new.seat.me c.load.ensures.same.0 c.load.ensures.told
