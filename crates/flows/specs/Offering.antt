-- The frames of a flow, and how many were offered.
use Rattle.std.specs.Prelude.{◌≡◌, ℕ, ◌+◌, ◌-◌, ◌*◌, ◌<◌, ◌≤◌, List, length}
use Rattle.ring_model.specs.shared.Frames.{Bytes}
use Rattle.flows.specs.Keys.{repeated}

-- All frames in order, and the number of those that were offered.
pub record Offering : Type 0 where
  pub frames : List Bytes
  pub next : ℕ

-- The frames this many times, of which `rounds` times are left, this one included, and in this one `at` frames were
-- offered.
abbrev pub offering : List Bytes → ℕ → ℕ → ℕ → Offering
offering fs repeat rounds at = record { frames = repeated repeat fs; next = (repeat - rounds) * length fs + at }

-- There are as many frames as places, and the next one is at one of these while some are left.
pub record IsWithin (places repeat rounds at : ℕ) : Type 0 where
  pub few : rounds ≤ repeat
  pub none : rounds ≡ 0 → at ≡ 0
  pub some : 0 < rounds → at < places
