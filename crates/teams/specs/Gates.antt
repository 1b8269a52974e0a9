-- The points at which a gate may refuse.
use Rattle.std.specs.Prelude.{Bool, false}
use Rattle.refusals.specs.declared.errors.ForwardError.{ForwardError}
use Rattle.refusals.specs.declared.errors.ForwardError.TheVariants.{Memory, Gate, Thread, Config}
use Rattle.teams.specs.declared.gate.Who.{Who}
use Rattle.teams.specs.declared.gate.Event.{Event}

-- some call of the gate's `pass` by this worker may answer false
abbrev pub MayRefuse : {G : Type 0} → (G → Who → Event → Bool → Type 0) → G → Who → Type 0
MayRefuse answers gate who = (event : Event) × answers gate who event false

-- some call of the gate's `pass`, by whomever, may answer false
abbrev pub CanRefuse : {G : Type 0} → (G → Who → Event → Bool → Type 0) → G → Type 0
CanRefuse answers gate = (who : Who) × MayRefuse answers gate who

-- why a flow's turn may be refused: memory, or a gate that can refuse
abbrev pub Met : {G : Type 0} → (G → Who → Event → Bool → Type 0) → G → ForwardError → Type 0
Met answers gate Memory = Unit {0}
Met answers gate Gate = CanRefuse answers gate
Met answers gate Thread = ⊥
Met answers gate Config = ⊥
