-- The law of plays: each adds exactly one event, of a load or of a store, to the record of the end that makes the step.
use Rattle.std.specs.Prelude.{◌≡◌, ℕ, Bool, true, false, refl, List}
use Rattle.atomic_table.specs.Table.{Me, Step}
use Rattle.buffer_pool.specs.Buffer.{Buffer}
use Rattle.shared_ring.specs.Accesses.{Kind, Load}
use Rattle.shared_ring.specs.Own.{Event, Tells}
use Rattle.shared_ring.specs.Plays.{End, Adds, Counts, Finds}

module _ {V E : Type 0} {whose : End V E} {st : Step Buffer} {m : Me Buffer V} {r : ℕ} {m' : Me Buffer V} where
  pub counts : {kind : Kind} {e : E} {slots : List (ℕ × Buffer)} → Adds whose kind st m r e slots m' → Counts whose kind st m r m'
  counts {e} {slots} t = record { event = e; slots = slots; adds = t }

  -- For both cases of the loaded word: done or not.
  module _ {event : Event E} {tells : Tells E} {missed : ℕ → ℕ → E} {done : ℕ → Bool} (t : Finds whose event tells missed done st m r m') where
    either_counts : (b : Bool) → done r ≡ b → Counts whose Load st m r m'
    either_counts true f = let o = t.taken f in counts o.adds
    either_counts false f = counts (t.undone f)

    pub finding_counts : Counts whose Load st m r m'
    finding_counts = either_counts (done r) refl
