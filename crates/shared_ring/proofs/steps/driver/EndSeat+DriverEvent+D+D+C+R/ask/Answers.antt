-- The step keeps the rule, and the record has one more event.
use Rattle.std.proofs.Common.{ap, ◌∙◌}
use Rattle.shared_ring.specs.Ends.{grown}
use Rattle.shared_ring.specs.Plays.{asks}
use Rattle.shared_ring.proofs.DriverSeats.{ask-asks, asked-out, same-keeps, same-steps}
use Rattle.shared_ring.proofs.steps.driver.EndSeat+DriverEvent+D+D+C+R.ask.Goals as goal

pub store-requires : goal.store-requires
store-requires g c = let i = c.self.inside in ask-asks g.R.Direction.form i.seat.table_id i.seat.me i.size i.completion c.self.invariant c.args.self.now c.self.view_is c.ring.inside.table.shared.table_id c.ring.inside.table.shared.key c.ring.invariant.of_key c.args.ring.now c.ring.view_is c.requires.own i.seat.id c.args.request c.requires.may c.word-value.result c.word-value.ensures

pub invariant_of-self : goal.invariant_of-self
invariant_of-self g c = let i = c.self.inside in same-keeps g.R.Direction.form i.seat.table_id i.seat.me i.size i.completion c.self.invariant (asks c.word-value.result) c.store.new.seat.table_id c.store.new.seat.me c.store.ensures.same.0 c.store.ensures.told.seat (asked-out g.R.Direction.form i.seat.table_id i.seat.me i.size i.completion c.self.invariant c.word-value.result)

pub returns : goal.returns
returns g c = let i = c.self.inside in same-steps g.R.Direction.form i.seat.table_id i.seat.me i.size i.completion c.self.invariant c.args.self.now c.self.view_is (asks c.word-value.result) c.store.new.seat.table_id c.store.new.seat.me c.store.ensures.same.0 c.store.ensures.told.seat ∙ ap (λ v. grown c.args.self.now (asks v)) c.word-value.ensures
