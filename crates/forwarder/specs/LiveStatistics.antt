-- The views of watched flows in contracts.
use Rattle.std.specs.Prelude.{◌≡◌, ℕ, ◌<◌, List, slice_index_or}
use Rattle.counters.specs.Cells.{Knowing}
use Rattle.counters.specs.Kinds.{driven_sum, driven_words, none_taken, nothing, tally_sum, tally_words}
use Rattle.counters.specs.Snapshots.{AreCounts}
use Rattle.counters.specs.declared.driven.Driven.{Driven}
use Rattle.counters.specs.declared.flows.FlowPens.{FlowPens}
use Rattle.counters.specs.declared.tally.Tally.{Tally}

-- the flow, what the pen of its cell knows, and the numbers that the cell showed before the flow began
pub record LiveFlow (F T : Type 0) : Type 0 where
  pub flow : F
  pub pen : Knowing T
  pub base : T

-- A cell that showed `base` goes on to show the sums of these numbers and a flow's, as long as each sum is one that a
-- counter can have. A cell that showed nothing shows the flow's numbers.
pub record GoesOnFrom {T : Type 0} (words : T → List ℕ) (sum : T → T → T) (opening base count shown : T) : Type 0 where
  pub sums : AreCounts (words (sum base count)) → shown ≡ sum base count
  pub first : base ≡ opening → shown ≡ count

abbrev pub TallyGoesOn : Tally → Tally → Tally → Type 0
TallyGoesOn base count shown = GoesOnFrom tally_words tally_sum nothing base count shown

abbrev pub DrivenGoesOn : Driven → Driven → Driven → Type 0
DrivenGoesOn base count shown = GoesOnFrom driven_words driven_sum none_taken base count shown

-- The pens of a flow before and after it, and the flow's counters.
pub record Continues (before after : FlowPens) (tally : Tally) (driven : Driven) : Type 0 where
  pub stat : TallyGoesOn before.stat.last tally after.stat.last
  pub drive : DrivenGoesOn before.drive.last driven after.drive.last

-- Each of the first `n` flows: its pens went on by its counters.
abbrev pub AllContinue : ℕ → List FlowPens → List FlowPens → List Tally → List Driven → Type 0
AllContinue n before after tallies counts =
    (flow : ℕ) (b a : FlowPens) (t : Tally) (d : Driven) → flow < n → Continues (slice_index_or before flow b) (slice_index_or after flow a) (slice_index_or tallies flow t) (slice_index_or counts flow d)
