-- A schedule is any list of steps. A step that cannot happen at its turn is skipped. This holds for one ring and for
-- queues side by side.
use Rattle.std.specs.Prelude.{◌≡◌, ℕ, suc, Bool, List, [], ◌∷◌, Option, Some, None, if◌then◌else◌}

-- `can` says whether a step can happen, and `changed` is the state after it.
module _ {State Step : Type 0} (can : State → Step → Bool) (changed : State → Step → State) where
  abbrev pub next : State → Step → State
  next r s = if can r s then changed r s else r

  abbrev pub after_all : State → List Step → State
  after_all r [] = r
  after_all r (s ∷ ss) = after_all (next r s) ss

  -- The number of steps that happen.
  abbrev pub happened : State → List Step → ℕ
  happened r [] = 0
  happened r (s ∷ ss) = if can r s then suc (happened (next r s) ss) else happened (next r s) ss

  -- The note of each step, or `None` if it cannot happen.
  abbrev pub told_by : {Told : Type 0} → (State → Step → Told) → State → List Step → List (Option Told)
  told_by tells r [] = []
  told_by tells r (s ∷ ss) = (if can r s then Some (tells r s) else None) ∷ told_by tells (next r s) ss

  -- Some schedule leads to the state from one of its possible beginnings.
  -- No worked row decides this; the laws assume it, and their proofs rely on it.
  pub record IsReached {Beginning : Type 0} (opening : Beginning → State) (r : State) : Type 0 where
    pub beginning : Beginning
    pub schedule : List Step
    pub made : after_all (opening beginning) schedule ≡ r
