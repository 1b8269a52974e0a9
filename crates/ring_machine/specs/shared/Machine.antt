-- The places, words and slots of every machine.
use Rattle.std.specs.Prelude.{ℕ, nat_lt, not, ◌&&◌, ◌==◌, is_none, if◌then◌else◌}
use Rattle.ring_model.specs.declared.states.Owner.{Owner}
use Rattle.ring_model.specs.declared.states.Owner.TheVariants.{Driver, Ring, Controller}
use Rattle.ring_model.specs.shared.Agreement.{Wrapped}
use Rattle.ring_model.specs.shared.Places.{between_places}
use Rattle.ring_machine.specs.declared.machine.queue.QueueMachine.TheInside.{Inside}

-- A buffer is its number.
abbrev pub wrapped_of : Inside → Wrapped ℕ
wrapped_of m = record {
  size = m.size;
  words = m.words.items;
  head = m.head;
  tail = m.tail;
  slots = m.slots.items;
  fill = m.fill;
  next = m.next;
  serve = m.serve;
  known = m.known;
  held = m.held;
  whole = m.whole;
  handshake = m.handshake;
}

-- The owner of a place, computed from the places between the next to come out and the next to post.
abbrev pub told_owner : Wrapped ℕ → ℕ → Owner
told_owner w place = if not (is_none w.held) && (place == w.serve) then Controller else
    (if nat_lt (between_places w.size w.next place) (between_places w.size w.next w.fill) then Ring else Driver)
