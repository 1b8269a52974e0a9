-- The relation between the numbers of each kind of cell.
use Rattle.std.specs.Prelude.{◌≡◌, ℕ, ◌+◌, ◌*◌, ◌≤◌, nat_lt, List, [], ◌∷◌, if◌then◌else◌}
use Rattle.limits.specs.declared.profile.TheConstants.{LEAST_FRAME, MOST_FRAME}
use Rattle.counters.specs.declared.tally.Tally.{Tally}
use Rattle.counters.specs.declared.driven.Driven.{Driven}
use Rattle.counters.specs.declared.bytes.Bytes.{Bytes}

abbrev pub tally_words : Tally → List ℕ
tally_words t = t.offered ∷ t.stored ∷ t.dropped ∷ t.oversize ∷ []

abbrev pub driven_words : Driven → List ℕ
driven_words d = d.taken ∷ d.posted ∷ d.tx_dropped ∷ []

-- Each offered frame was stored, dropped or oversize.
abbrev pub AddsUp : Tally → Type 0
AddsUp t = t.offered ≡ t.stored + t.dropped + t.oversize

-- Each posted or dropped frame was taken.
abbrev pub WasTaken : Driven → Type 0
WasTaken d = d.posted + d.tx_dropped ≤ d.taken

-- This number of frames can have this number of bytes.
pub record FillFrames (x : Bytes) : Type 0 where
  pub least : LEAST_FRAME * x.frames ≤ x.bytes
  pub most : x.bytes ≤ MOST_FRAME * x.frames

-- Nothing was offered yet.
abbrev pub nothing : Tally
nothing = record { offered = 0; stored = 0; dropped = 0; oversize = 0 }

-- No frame was taken yet.
abbrev pub none_taken : Driven
none_taken = record { taken = 0; posted = 0; tx_dropped = 0 }

abbrev pub no_bytes : Bytes
no_bytes = record { frames = 0; bytes = 0 }

-- The sums of two tallies, and of the counts of two drivers.
abbrev pub tally_sum : Tally → Tally → Tally
tally_sum a b = record { offered = a.offered + b.offered; stored = a.stored + b.stored; dropped = a.dropped + b.dropped; oversize = a.oversize + b.oversize }

abbrev pub driven_sum : Driven → Driven → Driven
driven_sum a b = record { taken = a.taken + b.taken; posted = a.posted + b.posted; tx_dropped = a.tx_dropped + b.tx_dropped }

-- As long as no more frames were taken, each count of a driver has room for one more turn.
abbrev pub most_exact : ℕ
most_exact = 18446744073709551583

-- The counts after one more turn.
abbrev pub after_turn : Driven → ℕ → ℕ → ℕ → Driven
after_turn d taken posted dropped = record { taken = d.taken + taken; posted = d.posted + posted; tx_dropped = d.tx_dropped + dropped }

-- The same, if there is room. If not, no count changes.
abbrev pub counted : Driven → ℕ → ℕ → ℕ → Driven
counted d taken posted dropped = if nat_lt most_exact d.taken then d else after_turn d taken posted dropped
