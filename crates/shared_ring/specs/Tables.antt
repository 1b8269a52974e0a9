-- The rule of a ring's table, for any ring: `IsLaidOut` says that words, slots and both records agree with one.
use Rattle.std.specs.Prelude.{◌≡◌, ℕ, ◌+◌, ◌<◌, ◌⊎◌, List, [], ◌∷◌, map, replicate}
use mathlib.Core.Option as maybe
use mathlib.Core.Option.{some}
use Rattle.atomic_table.specs.Table.{State}
use Rattle.atomic_table.specs.Seated.{TableId}
use Rattle.buffer_pool.specs.Buffer.{Buffer, blank}
use Rattle.limits.specs.RingLength.{IsRingLength}
use Rattle.ring_model.specs.declared.states.Completion.{Completion}
use Rattle.ring_model.specs.declared.states.Completion.TheVariants.{Status, Head}
use Rattle.shared_ring.specs.declared.events.View.{View}
use Rattle.shared_ring.specs.declared.events.View.TheVariants.{Maker}
use Rattle.shared_ring.specs.Seats.{HasSeats}

module _ {Ring D C : Type 0} (IsLaidOut : Ring → List D → List C → List ℕ → List (maybe.Option Buffer) → Type 0) where
  -- Both ends exist.
  pub record Runs (s : State Buffer (View D C)) : Type 0 where
    pub ring : Ring
    pub ds : List D
    pub cs : List C
    pub laid_out : IsLaidOut ring ds cs s.words s.homes
    pub seats : HasSeats ds cs s.views

-- The ring is being made: one seat, words of 0, and all slots in the table and empty.
pub record Begins (D C : Type 0) (n m : ℕ) (s : State Buffer (View D C)) : Type 0 where
  pub words : s.words ≡ replicate m 0
  pub homes : s.homes ≡ map some (replicate n blank)
  pub views : s.views ≡ Maker ∷ []

module _ {Ring D C : Type 0} (IsLaidOut : Ring → List D → List C → List ℕ → List (maybe.Option Buffer) → Type 0) where
  abbrev pub IsRuledBy : ℕ → ℕ → State Buffer (View D C) → Type 0
  IsRuledBy n m s = (1 < n) × (Begins D C n m s ⊎ Runs IsLaidOut s)

-- A ring that reports through a head word has one word more.
abbrev pub words_of : ℕ → Completion → ℕ
words_of n Status = n + 4
words_of n Head = n + 5

-- A ring's table: `n` slots, its words, and a lawful length.
pub record IsTableOf (table : TableId) (n : ℕ) (mode : Completion) : Type 0 where
  pub slots : table.slots ≡ n
  pub words : table.words ≡ words_of n mode
  pub length_is : IsRingLength n
