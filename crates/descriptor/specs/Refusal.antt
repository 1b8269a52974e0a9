-- The refusal that is returned, among those that apply.
use Rattle.std.specs.Prelude.{◌<◌}
use Rattle.refusals.specs.DescError.{refusal_number}
use Rattle.refusals.specs.declared.errors.DescError.{DescError}

-- `Keeps e` is the rule whose violation is the refusal `e`. Of the broken rules, the one with the lowest number is
-- returned.
pub record IsLowest (Keeps : DescError → Type 0) (e : DescError) : Type 0 where
  pub broken : ¬ Keeps e
  pub lowest : (lower : DescError) → refusal_number lower < refusal_number e → Keeps lower
