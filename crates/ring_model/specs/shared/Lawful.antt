-- The lawful owner map of a ring, and the lawful state of a whole queue.
use Rattle.std.specs.Prelude.{◌≡◌, ◌≢◌, ℕ, ◌%◌, ◌<◌, ◌≤◌, Bool, ◌&&◌, ◌==◌, List, length, Some, slice_get, if◌then◌else◌}
use Rattle.ring_model.specs.declared.states.Owner.{Owner}
use Rattle.ring_model.specs.declared.states.Owner.TheVariants.{Driver, Ring, Controller}
use Rattle.ring_model.specs.shared.Queue.{Ledger, Queue, posted_count, completed_count, returned_count}

-- The items that are out: from `first` up to, but not including, `past`. The controller may hold the item `serving`.
pub record Window : Type 0 where
  pub size : ℕ
  pub first : ℕ
  pub serving : ℕ
  pub past : ℕ
  pub held : Bool

abbrev pub window : {Posted Completed Reaped : Type 0} → Queue Posted Completed Reaped → Window
window q = record { size = q.size; first = returned_count q; serving = completed_count q; past = posted_count q; held = q.held }

-- The owner of the place of an item that is out.
abbrev pub holder : Window → ℕ → Owner
holder w k = if w.held && (k == w.serving) then Controller else Ring

-- Every place has exactly one owner. The places of items that are out belong to Ring, a fetched one to Controller, and
-- all others to Driver.
-- No worked row decides this; `rings_are_lawful` proves it of every reachable ring.
pub record IsLawfulMap (w : Window) (owners : List Owner) : Type 0 where
  pub places : length owners ≡ w.size
  pub out : (k : ℕ) → w.first ≤ k → k < w.past → slice_get owners (k % w.size) ≡ Some (holder w k)
  pub home : (place : ℕ) → place < w.size → ((k : ℕ) → w.first ≤ k → k < w.past → (k % w.size) ≢ place) → slice_get owners place ≡ Some Driver

-- The ledgers of this epoch and of every ended one are lawful for the queue's size, and so is its owner map.
-- No worked row decides this; `rings_are_lawful` proves it of every reachable ring.
pub record IsLawfulQueue {Posted Completed Reaped : Type 0} (IsLawful : ℕ → Ledger Posted Completed Reaped → Type 0) (q : Queue Posted Completed Reaped) : Type 0 where
  pub ledger : IsLawful q.size q.ledger
  pub past : (k : ℕ) (l : Ledger Posted Completed Reaped) → slice_get q.past k ≡ Some l → IsLawful q.size l
  pub map : IsLawfulMap (window q) q.owners
