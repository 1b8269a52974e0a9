use Rattle.std.proofs.Common.{◌≡◌, ℕ, ◌<◌, ◌≤◌, false, get_or}
use Rattle.std.specs.Prelude.{vec_capacity}
use Rattle.std.specs.Mem.Slots.{slots_items, slots_filled, slots_len}
use Rattle.std.specs.Mem.Slots.Ownership.{Filled}
use Rattle.shared_ring.specs.Meeting.{kept_upto, kept_at}
use Rattle.shared_ring.proofs.steps.closing.empty.Given as goal

abbrev pub invariant-loop-place : goal.invariant-loop-place
invariant-loop-place l = Filled (slots_filled l.closed.slots) l.place (slots_len l.closed.slots) × ((k : ℕ) → k < l.place → get_or (slots_filled l.closed.slots) k false ≡ false)
    × (slots_len l.closed.slots ≡ l.size) × (slots_items l.closed.slots ≡ slots_items l.initial.closed.slots) × (l.size ≤ vec_capacity l.room)
    × (l.room.items ≡ kept_upto (kept_at l.size l.next l.out l.serve l.holding (slots_items l.initial.closed.slots)) l.place)
