-- How work ended together.
use Rattle.std.proofs.Common.{Bool}
use Rattle.teams.specs.declared.gate.Who.{Who}
use Rattle.teams.specs.declared.gate.Event.{Event}
use Rattle.teams.specs.declared.ending.Ending.{Ending}
use Rattle.teams.specs.declared.ending.Ending.TheVariants.{Done, Refused, Stopped}
use Rattle.refusals.specs.declared.errors.ForwardError.{ForwardError}
use Rattle.refusals.specs.declared.errors.ForwardError.TheVariants.{Memory, Gate, Thread, Config}
use Rattle.teams.specs.Gates.{Met}
use Rattle.teams.specs.Refusals.{Halted}
use Rattle.teams.specs.Endings.{IsSo, worse}

pub so-worse : {G : Type 0} (answers : G → Who → Event → Bool → Type 0) (gate : G) (A B C : Type 0) → (A → B → C) → (x y : Ending)
    → IsSo A answers gate x → IsSo B answers gate y → IsSo C answers gate (worse x y)
so-worse answers gate A B C both Done Done a b = both a b
so-worse answers gate A B C both Done (Refused e) a b = b
so-worse answers gate A B C both Done Stopped a b = tt {0}
so-worse answers gate A B C both (Refused e) y a b = a
so-worse answers gate A B C both Stopped Done a b = tt {0}
so-worse answers gate A B C both Stopped (Refused e) a b = b
so-worse answers gate A B C both Stopped Stopped a b = tt {0}

-- what a flow's turn may be refused with, its worker may be
pub met_halted : {G : Type 0} (answers : G → Who → Event → Bool → Type 0) (gate : G) (e : ForwardError) → Met answers gate e → Halted answers gate e
met_halted answers gate Memory met = met
met_halted answers gate Gate met = met
met_halted answers gate Thread met = absurd met
met_halted answers gate Config met = absurd met
