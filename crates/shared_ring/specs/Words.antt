-- The control word.
use Rattle.std.specs.Prelude.{ℕ}
use Rattle.shared_ring.specs.declared.control.Control.{Control}
use Rattle.shared_ring.specs.declared.control.Control.TheVariants.{Disabled, EnableAsked, Enabled, DisableAsked}

abbrev pub control_word : Control → ℕ
control_word Disabled = 0
control_word EnableAsked = 1
control_word Enabled = 2
control_word DisableAsked = 3
