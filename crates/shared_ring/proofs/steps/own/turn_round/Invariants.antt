use Rattle.std.proofs.Common.{◌≡◌}
use Rattle.shared_ring.specs.Slots.{empty_slots}
use Rattle.shared_ring.proofs.steps.own.turn_round.Given as goal

abbrev pub invariant-loop : goal.invariant-loop
invariant-loop g l = (l.seat.table_id ≡ l.initial.seat.table_id) × (l.seat.id ≡ l.initial.seat.id) × (l.seat.me.0 ≡ l.initial.seat.me.0) × (l.seat.me.1 ≡ empty_slots l.size l.counter l.size)
