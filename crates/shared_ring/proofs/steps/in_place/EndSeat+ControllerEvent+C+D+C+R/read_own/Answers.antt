-- The load keeps the rule, and so does the store, which gives back the slot with the buffer that was in it.
use Rattle.std.proofs.Common.{refl}
use Rattle.shared_ring.proofs.ControllerSeats.{fetch-asks}
use Rattle.shared_ring.proofs.InPlace.{came_out, serve-asks, serve-keeps, serve-steps}
use Rattle.shared_ring.proofs.steps.in_place.EndSeat+ControllerEvent+C+D+C+R.read_own.Goals as goal

pub load-word-requires : goal.load-word-requires
load-word-requires g c = let i = c.self.inside in fetch-asks g.R.Direction.form i.seat.table_id i.seat.me i.size i.completion c.self.invariant c.args.self.now c.self.view_is c.ring.inside.table.shared.table_id c.ring.inside.table.shared.key c.ring.invariant.of_key c.args.ring.now c.ring.view_is c.requires.own i.seat.id c.args.place c.requires.place c.requires.serving c.requires.ahead c.requires.held c.requires.free

pub take-requires : goal.take-requires
take-requires g c = let i = c.self.inside in let form = g.R.Direction.form in let old = c.args.self.now in c.requires.may.takes c.load-word.result c.slot_mut.result.now (let out = came_out form i.seat.table_id i.seat.me i.size i.completion c.self.invariant old c.self.view_is c.ring.inside.table.shared.table_id c.ring.inside.table.shared.key c.ring.invariant.of_key c.args.ring.now c.ring.view_is c.requires.own c.args.place c.load-word.result c.load-word.new.seat.table_id c.load-word.new.seat.me c.slot_mut.result.now c.load-word.ensures.same.0 c.load-word.ensures.told c.slot_mut.ensures.value c.requires.place c.requires.held in out.fetched)

pub store-requires : goal.store-requires
store-requires g c = let i = c.self.inside in let form = g.R.Direction.form in let old = c.args.self.now in serve-asks form i.seat.table_id i.seat.me i.size i.completion c.self.invariant old c.self.view_is c.ring.inside.table.shared.table_id c.ring.inside.table.shared.key c.ring.invariant.of_key c.args.ring.now c.ring.view_is c.requires.own
    c.args.place c.load-word.result c.load-word.new.seat.table_id c.load-word.new.seat.me c.slot_mut.result.now c.load-word.ensures.same.0 c.load-word.ensures.told c.slot_mut.ensures.value c.requires.place c.requires.held g.P.OwnStep.event c.args.index c.args.value c.slot_mut.result.now
    (c.requires.may.gives c.load-word.result c.slot_mut.result.now (let out = came_out form i.seat.table_id i.seat.me i.size i.completion c.self.invariant old c.self.view_is c.ring.inside.table.shared.table_id c.ring.inside.table.shared.key c.ring.invariant.of_key c.args.ring.now c.ring.view_is c.requires.own c.args.place c.load-word.result c.load-word.new.seat.table_id c.load-word.new.seat.me c.slot_mut.result.now c.load-word.ensures.same.0 c.load-word.ensures.told c.slot_mut.ensures.value c.requires.place c.requires.held in out.fetched)) c.load-word.new.seat.id c.load-word.new.seat.table_id refl

pub invariant_of-self : goal.invariant_of-self
invariant_of-self g c = let i = c.self.inside in let form = g.R.Direction.form in let old = c.args.self.now in serve-keeps form i.seat.table_id i.seat.me i.size i.completion c.self.invariant old c.self.view_is c.ring.inside.table.shared.table_id c.ring.inside.table.shared.key c.ring.invariant.of_key c.args.ring.now c.ring.view_is c.requires.own
    c.args.place c.load-word.result c.load-word.new.seat.table_id c.load-word.new.seat.me c.slot_mut.result.now c.load-word.ensures.same.0 c.load-word.ensures.told c.slot_mut.ensures.value c.requires.place c.requires.held g.P.OwnStep.event c.args.index c.args.value c.slot_mut.result.now
    (c.requires.may.gives c.load-word.result c.slot_mut.result.now (let out = came_out form i.seat.table_id i.seat.me i.size i.completion c.self.invariant old c.self.view_is c.ring.inside.table.shared.table_id c.ring.inside.table.shared.key c.ring.invariant.of_key c.args.ring.now c.ring.view_is c.requires.own c.args.place c.load-word.result c.load-word.new.seat.table_id c.load-word.new.seat.me c.slot_mut.result.now c.load-word.ensures.same.0 c.load-word.ensures.told c.slot_mut.ensures.value c.requires.place c.requires.held in out.fetched))
    c.store.new.seat.table_id c.store.new.seat.me c.store.ensures.same.0 c.store.ensures.told.seat

pub returns : goal.returns
returns g c = let i = c.self.inside in let form = g.R.Direction.form in let old = c.args.self.now in record {
  buf = c.slot_mut.result.now;
  served = (serve-steps form i.seat.table_id i.seat.me i.size i.completion c.self.invariant old c.self.view_is c.ring.inside.table.shared.table_id c.ring.inside.table.shared.key c.ring.invariant.of_key c.args.ring.now c.ring.view_is c.requires.own
      c.args.place c.load-word.result c.load-word.new.seat.table_id c.load-word.new.seat.me c.slot_mut.result.now c.load-word.ensures.same.0 c.load-word.ensures.told c.slot_mut.ensures.value c.requires.place c.requires.held g.P.OwnStep.event c.args.index c.args.value c.slot_mut.result.now
      (c.requires.may.gives c.load-word.result c.slot_mut.result.now (let out = came_out form i.seat.table_id i.seat.me i.size i.completion c.self.invariant old c.self.view_is c.ring.inside.table.shared.table_id c.ring.inside.table.shared.key c.ring.invariant.of_key c.args.ring.now c.ring.view_is c.requires.own c.args.place c.load-word.result c.load-word.new.seat.table_id c.load-word.new.seat.me c.slot_mut.result.now c.load-word.ensures.same.0 c.load-word.ensures.told c.slot_mut.ensures.value c.requires.place c.requires.held in out.fetched))
      c.store.new.seat.table_id c.store.new.seat.me c.store.ensures.same.0 c.store.ensures.told.seat);
  taken = c.take.ensures;
}
