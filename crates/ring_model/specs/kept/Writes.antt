-- The effect of one write, by place.
use Rattle.std.specs.Prelude.{◌≡◌, ◌≢◌, ℕ, ◌<◌}

-- After one write: `x` at place `p`, all other places below `n` unchanged.
pub record Writes {X : Type 0} (n : ℕ) (before later : ℕ → X) (p : ℕ) (x : X) : Type 0 where
  pub here : later p ≡ x
  pub rest : (j : ℕ) → j < n → j ≢ p → later j ≡ before j
