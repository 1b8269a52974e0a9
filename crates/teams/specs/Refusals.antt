-- The refusals of workers.
use Rattle.std.specs.Prelude.{Bool}
use Rattle.teams.specs.declared.gate.Who.{Who}
use Rattle.teams.specs.declared.gate.Event.{Event}
use Rattle.refusals.specs.declared.errors.ForwardError.{ForwardError}
use Rattle.refusals.specs.declared.errors.ForwardError.TheVariants.{Memory, Gate, Thread, Config}
use Rattle.teams.specs.Gates.{CanRefuse}

-- The refusals that can happen: lack of memory, a gate that can refuse, or a thread that could not be started. A
-- configuration is checked before.
abbrev pub Halted : {G : Type 0} → (G → Who → Event → Bool → Type 0) → G → ForwardError → Type 0
Halted answers gate Memory = Unit {0}
Halted answers gate Gate = CanRefuse answers gate
Halted answers gate Thread = Unit {0}
Halted answers gate Config = ⊥
