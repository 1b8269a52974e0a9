-- The load keeps the rule, and so does the store, which gives back the slot with the filled buffer.
use Rattle.std.proofs.Common.{sym, refl, subst, [], ◌∷◌, ◌++◌}
use Rattle.buffer_pool.specs.Buffer.{Buffer}
use Rattle.shared_ring.specs.declared.events.ControllerEvent.TheVariants.{Fetched}
use Rattle.shared_ring.specs.InPlace.{Served}
use Rattle.shared_ring.specs.Own.{MayReap}
use Rattle.shared_ring.specs.Seats.{controller_part}
use Rattle.shared_ring.proofs.ControllerSeats.{fetch-asks}
use Rattle.shared_ring.proofs.InPlace.{came_out, serve-asks, serve-keeps, serve-steps}
use Rattle.shared_ring.proofs.steps.in_place.EndSeat+ControllerEvent+C+D+C+R.fill_own.Goals as goal

pub load-requires : goal.load-requires
load-requires g c = let i = c.self.inside in fetch-asks g.R.Direction.form i.seat.table_id i.seat.me i.size i.completion c.self.invariant c.args.self.now c.self.view_is c.ring.inside.table.shared.table_id c.ring.inside.table.shared.key c.ring.invariant.of_key c.args.ring.now c.ring.view_is c.requires.own i.seat.id c.args.place c.requires.place c.requires.serving c.requires.ahead c.requires.held c.requires.free

pub store-requires : goal.store-requires
store-requires g c = let i = c.self.inside in let form = g.R.Direction.form in let old = c.args.self.now in serve-asks form i.seat.table_id i.seat.me i.size i.completion c.self.invariant old c.self.view_is c.ring.inside.table.shared.table_id c.ring.inside.table.shared.key c.ring.invariant.of_key c.args.ring.now c.ring.view_is c.requires.own
    c.args.place c.load.result c.load.new.seat.table_id c.load.new.seat.me c.slot_mut.result.now c.load.ensures.same.0 c.load.ensures.told c.slot_mut.ensures.value c.requires.place c.requires.held g.P.OwnStep.event c.args.index c.args.value c.fill.new.self
    (subst (λ (x : Buffer). MayReap form g.P.OwnStep.event old.table.slots old.completion (old.events ++ Fetched c.args.place c.load.result c.slot_mut.result.now ∷ []) c.args.place c.args.index c.args.value x) (sym c.fill.ensures) (c.requires.may.gives c.load.result c.slot_mut.result.now (let out = came_out form i.seat.table_id i.seat.me i.size i.completion c.self.invariant old c.self.view_is c.ring.inside.table.shared.table_id c.ring.inside.table.shared.key c.ring.invariant.of_key c.args.ring.now c.ring.view_is c.requires.own c.args.place c.load.result c.load.new.seat.table_id c.load.new.seat.me c.slot_mut.result.now c.load.ensures.same.0 c.load.ensures.told c.slot_mut.ensures.value c.requires.place c.requires.held in out.fetched))) c.load.new.seat.id c.load.new.seat.table_id refl

pub invariant_of-self : goal.invariant_of-self
invariant_of-self g c = let i = c.self.inside in let form = g.R.Direction.form in let old = c.args.self.now in serve-keeps form i.seat.table_id i.seat.me i.size i.completion c.self.invariant old c.self.view_is c.ring.inside.table.shared.table_id c.ring.inside.table.shared.key c.ring.invariant.of_key c.args.ring.now c.ring.view_is c.requires.own
    c.args.place c.load.result c.load.new.seat.table_id c.load.new.seat.me c.slot_mut.result.now c.load.ensures.same.0 c.load.ensures.told c.slot_mut.ensures.value c.requires.place c.requires.held g.P.OwnStep.event c.args.index c.args.value c.fill.new.self
    (subst (λ (x : Buffer). MayReap form g.P.OwnStep.event old.table.slots old.completion (old.events ++ Fetched c.args.place c.load.result c.slot_mut.result.now ∷ []) c.args.place c.args.index c.args.value x) (sym c.fill.ensures) (c.requires.may.gives c.load.result c.slot_mut.result.now (let out = came_out form i.seat.table_id i.seat.me i.size i.completion c.self.invariant old c.self.view_is c.ring.inside.table.shared.table_id c.ring.inside.table.shared.key c.ring.invariant.of_key c.args.ring.now c.ring.view_is c.requires.own c.args.place c.load.result c.load.new.seat.table_id c.load.new.seat.me c.slot_mut.result.now c.load.ensures.same.0 c.load.ensures.told c.slot_mut.ensures.value c.requires.place c.requires.held in out.fetched)))
    c.store.new.seat.table_id c.store.new.seat.me c.store.ensures.same.0 c.store.ensures.told.seat

pub returns : goal.returns
returns g c = let i = c.self.inside in let form = g.R.Direction.form in let old = c.args.self.now in record {
  fetched_word = c.load.result;
  buf = c.slot_mut.result.now;
  served = subst (λ (x : Buffer). Served form g.P.OwnStep.event old c.args.place c.args.index c.args.value c.load.result c.slot_mut.result.now x (record { table = c.store.new.seat.table_id; completion = i.completion; events = controller_part c.store.new.seat.me.0 })) c.fill.ensures (serve-steps form i.seat.table_id i.seat.me i.size i.completion c.self.invariant old c.self.view_is c.ring.inside.table.shared.table_id c.ring.inside.table.shared.key c.ring.invariant.of_key c.args.ring.now c.ring.view_is c.requires.own
      c.args.place c.load.result c.load.new.seat.table_id c.load.new.seat.me c.slot_mut.result.now c.load.ensures.same.0 c.load.ensures.told c.slot_mut.ensures.value c.requires.place c.requires.held g.P.OwnStep.event c.args.index c.args.value c.fill.new.self
      (subst (λ (x : Buffer). MayReap form g.P.OwnStep.event old.table.slots old.completion (old.events ++ Fetched c.args.place c.load.result c.slot_mut.result.now ∷ []) c.args.place c.args.index c.args.value x) (sym c.fill.ensures) (c.requires.may.gives c.load.result c.slot_mut.result.now (let out = came_out form i.seat.table_id i.seat.me i.size i.completion c.self.invariant old c.self.view_is c.ring.inside.table.shared.table_id c.ring.inside.table.shared.key c.ring.invariant.of_key c.args.ring.now c.ring.view_is c.requires.own c.args.place c.load.result c.load.new.seat.table_id c.load.new.seat.me c.slot_mut.result.now c.load.ensures.same.0 c.load.ensures.told c.slot_mut.ensures.value c.requires.place c.requires.held in out.fetched)))
      c.store.new.seat.table_id c.store.new.seat.me c.store.ensures.same.0 c.store.ensures.told.seat);
}
