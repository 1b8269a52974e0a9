-- Registers: counters that one side writes and others read, each in one step. A moment is the contents of all of them.
use Rattle.std.specs.Prelude.{◌≡◌, ℕ, ◌<◌, true, List, [], length, replicate, slice_index, slice_set}
use Rattle.atomic_table.specs.Seated.{TableId}
use Rattle.atomic_table.specs.Table.{Me, State, Step}
use Rattle.counters.specs.declared.rule.CellKnowledge.{CellKnowledge}
use Rattle.counters.specs.Rule.{HoldsSeqCellRule, known, snapshots_of}
use Rattle.counters.specs.Snapshots.{GoesOn, NoneFalls}

abbrev RegisterKnowledge : Type 0
RegisterKnowledge = CellKnowledge (List ℕ)

abbrev pub zeros : ℕ → List ℕ
zeros count = replicate count 0

-- The rule of `count` registers is that of a cell whose numbers they are.
abbrev pub HoldsRegisters : ℕ → State (Unit {0}) RegisterKnowledge → Type 0
HoldsRegisters count s = HoldsSeqCellRule (λ ns. ns) (λ ns. length ns ≡ count) s.words s.views

-- A seat of this table, which takes no slots; its registers are the table's words.
pub record IsSeated (table : TableId) (count : ℕ) (seat : TableId) (me : Me (Unit {0}) RegisterKnowledge) : Type 0 where
  pub own : seat ≡ table
  pub registers : table.words ≡ count
  pub some : 0 < count
  pub no_slots : table.slots ≡ 0
  pub none_out : me.1 ≡ []

-- ---- what a step tells

-- A load: the knowledge continues from what it was, up to a moment with this number. The side that writes knows that moment.
pub record HasLoaded (at : ℕ) (old : RegisterKnowledge) (n : ℕ) (new : RegisterKnowledge) : Type 0 where
  pub value : n ≡ slice_index new.last at
  pub writes : new.writes ≡ old.writes
  pub later : GoesOn (snapshots_of old) (snapshots_of new)
  pub none_falls : NoneFalls old.last new.last
  pub knows : old.writes ≡ true → new ≡ old

abbrev pub loaded : Step (Unit {0}) → Me (Unit {0}) RegisterKnowledge → ℕ → Me (Unit {0}) RegisterKnowledge → Type 0
loaded step old n new = HasLoaded step.word old.0 n new.0 × (new.1 ≡ old.1)

-- A store: one more moment, in which this register has the number.
abbrev pub stored : Step (Unit {0}) → Me (Unit {0}) RegisterKnowledge → ℕ → Me (Unit {0}) RegisterKnowledge → Type 0
stored step old n new = (new.0 ≡ known old.0.writes (slice_set old.0.last step.word step.first) (snapshots_of old.0)) × (new.1 ≡ old.1)
