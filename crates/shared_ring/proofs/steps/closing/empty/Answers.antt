-- Place after place, a buffer comes out of its slot, and goes into the room that was reserved.
use Rattle.std.proofs.Common.{◌≡◌, length, ap, ◌∙◌, arith}
use Rattle.std.specs.Mem.Slots.{slots_items}
use Rattle.shared_ring.specs.Meeting.{kept_at}
use Rattle.shared_ring.proofs.Meeting.{kept-length}
use Rattle.shared_ring.proofs.steps.closing.empty.Goals as goal

pub push_reserved-requires : goal.push_reserved-requires
push_reserved-requires c = let i = c.loop-place.invariant in let ok = c.loop-place.room.ok in let t = c.loop-place-test.true in let r = i.4 in
    let e : length c.loop-place.room.items ≡ c.loop-place.place = ap length i.5 ∙ kept-length (kept_at c.args.size c.args.next c.args.out c.args.serve c.args.holding (slots_items c.args.closed.slots)) c.loop-place.place in
    let n = ok.0 in omega arith

pub push_reserved-requires-else-places_between-out : goal.push_reserved-requires-else-places_between-out
push_reserved-requires-else-places_between-out c = let i = c.loop-place.invariant in let ok = c.loop-place.room.ok in let t = c.loop-place-test.true in let r = i.4 in
    let e : length c.loop-place.room.items ≡ c.loop-place.place = ap length i.5 ∙ kept-length (kept_at c.args.size c.args.next c.args.out c.args.serve c.args.holding (slots_items c.args.closed.slots)) c.loop-place.place in
    let n = ok.0 in omega arith
