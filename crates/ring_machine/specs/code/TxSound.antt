-- The invariants of a transmit machine, whatever it agrees with, and which postings its words can hold.
use Rattle.std.specs.Prelude.{ℕ, ◌^◌, ◌<◌}
use Rattle.ring_model.specs.declared.steps.TxStep.{TxStep}
use Rattle.ring_model.specs.declared.steps.TxStep.TheVariants.{Post}
use Rattle.ring_model.specs.transmit.Ring.{Posting}
use Rattle.ring_machine.specs.transmit.Machine.{TxParts}
use Rattle.ring_machine.specs.code.Sound.{IsSound}

-- The places of reports are in the ring too.
pub record IsTxSound (p : TxParts) : Type 0 where
  pub queue : IsSound p.queue
  pub rep : p.rep < p.queue.size
  pub report : p.report < p.queue.size

-- The length of a posted segment fits the descriptor's bits.
abbrev pub StepFits : TxStep (Posting ℕ) → Type 0
StepFits (Post p) = p.payload < 2 ^ 16
StepFits _ = Unit {0}
