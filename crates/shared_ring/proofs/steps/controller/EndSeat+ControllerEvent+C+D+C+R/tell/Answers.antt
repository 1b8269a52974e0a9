-- The step keeps the rule, and the record has one more event.
use Rattle.std.proofs.Common.{ap, ◌∙◌}
use Rattle.shared_ring.specs.Ends.{grown}
use Rattle.shared_ring.specs.Plays.{answers}
use Rattle.shared_ring.proofs.ControllerSeats.{tell-asks, tell-unheld, tell-slots, same-keeps, same-steps}
use Rattle.shared_ring.proofs.steps.controller.EndSeat+ControllerEvent+C+D+C+R.tell.Goals as goal

pub store-requires : goal.store-requires
store-requires g c = let i = c.self.inside in tell-asks g.R.Direction.form i.seat.table_id i.seat.me i.size i.completion c.self.invariant c.args.self.now c.self.view_is c.ring.inside.table.shared.table_id c.ring.inside.table.shared.key c.ring.invariant.of_key c.args.ring.now c.ring.view_is c.requires.own i.seat.id c.args.told c.requires.may c.word-value.result c.word-value.ensures

pub invariant_of-self : goal.invariant_of-self
invariant_of-self g c = let i = c.self.inside in same-keeps g.R.Direction.form i.seat.table_id i.seat.me i.size i.completion c.self.invariant (answers c.word-value.result) c.store.new.seat.table_id c.store.new.seat.me c.store.ensures.same.0 c.store.ensures.told.seat
    (tell-slots g.R.Direction.form i.seat.table_id i.seat.me i.size i.completion c.self.invariant c.args.self.now c.self.view_is c.ring.inside.table.shared.table_id c.ring.inside.table.shared.key c.ring.invariant.of_key c.args.ring.now c.ring.view_is c.requires.own c.word-value.result (tell-unheld g.R.Direction.form i.seat.table_id i.seat.me i.size i.completion c.self.invariant c.args.self.now c.self.view_is c.ring.inside.table.shared.table_id c.ring.inside.table.shared.key c.ring.invariant.of_key c.args.ring.now c.ring.view_is c.requires.own c.args.told c.requires.may))

pub returns : goal.returns
returns g c = let i = c.self.inside in same-steps g.R.Direction.form i.seat.table_id i.seat.me i.size i.completion c.self.invariant c.args.self.now c.self.view_is (answers c.word-value.result) c.store.new.seat.table_id c.store.new.seat.me c.store.ensures.same.0 c.store.ensures.told.seat ∙ ap (λ v. grown c.args.self.now (answers v)) c.word-value.ensures
