-- The counters of a thread as its side or a reader knows them, and the steps of the calls on them.
use Rattle.std.specs.Prelude.{◌≡◌, ℕ, zero, suc, ◌<◌, ◌≤◌, ◌⊎◌, List, slice_index, slice_set}
use Rattle.counters.specs.Cells.{Knowing, all_of, fresh, with_snapshot}
use Rattle.counters.specs.Registers.{zeros}
use Rattle.counters.specs.Snapshots.{GoesOn, NoneFalls}
use Rattle.poll82599_c.specs.declared.exports.counting.TheConstants.{COUNTERS}

-- the moments that are known, each with the numbers of all counters
abbrev pub Counted : Type 0
Counted = Knowing (List ℕ)

-- a new set, in which all counters are 0
abbrev pub AreNew : Counted → Type 0
AreNew c = (c.cell.words ≡ COUNTERS) × (c ≡ fresh c.cell (zeros COUNTERS))

-- 1: the counter has the number; 0: there is no such counter, or it is above the number
abbrev pub TriedSet : ℕ → ℕ → ℕ → Counted → Counted → Type 0
TriedSet zero at number old new = ((old.cell.words ≤ at) ⊎ (number < slice_index old.last at)) × (new ≡ old)
TriedSet (suc zero) at number old new = (at < old.cell.words) × (slice_index old.last at ≤ number) × (new ≡ with_snapshot (slice_set old.last at number) old)
TriedSet _ at number old new = ⊥

-- of the same set, with later moments or none, from which no counter has fallen
pub record WentOn (old new : Counted) : Type 0 where
  pub own : new.cell ≡ old.cell
  pub later : GoesOn (all_of old) (all_of new)
  pub none_falls : NoneFalls old.last new.last

-- 1: the counter has the number at the newest moment that is known now; 0: there is no such counter
abbrev pub TriedGet : ℕ → ℕ → ℕ → Counted → Counted → Type 0
TriedGet zero at number old new = (old.cell.words ≤ at) × (new ≡ old)
TriedGet (suc zero) at number old new = (at < old.cell.words) × (number ≡ slice_index new.last at) × WentOn old new
TriedGet _ at number old new = ⊥
