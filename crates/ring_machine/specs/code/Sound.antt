-- The invariants of a machine's core, whatever it agrees with.
use Rattle.std.specs.Prelude.{◌≡◌, ℕ, ◌<◌, ◌≤◌, length}
use Rattle.limits.specs.declared.profile.TheConstants.{MOST_RING}
use Rattle.ring_model.specs.shared.Agreement.{Wrapped}

-- Every place is in the ring, and each place has a word and a slot.
pub record IsSound (w : Wrapped ℕ) : Type 0 where
  pub some_places : 1 < w.size
  pub few_places : w.size ≤ MOST_RING
  pub words : length w.words ≡ w.size
  pub slots : length w.slots ≡ w.size
  pub fill : w.fill < w.size
  pub next : w.next < w.size
  pub serve : w.serve < w.size
  pub tail : w.tail < w.size
