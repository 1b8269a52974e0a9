-- The numbers and the words of refusals.
use Rattle.std.specs.Prelude.{ℕ, List, codes}
use Rattle.refusals.specs.declared.errors.MachineError.{MachineError}
use Rattle.refusals.specs.declared.errors.MachineError.TheVariants.{NotEnabled, RingLength, Memory, Text}

abbrev pub refusal_number : MachineError → ℕ
refusal_number NotEnabled = 11
refusal_number RingLength = 12
refusal_number Memory = 13
refusal_number Text = 14

abbrev pub words_of_error : MachineError → List ℕ
words_of_error NotEnabled = codes "not enabled"
words_of_error RingLength = codes "ring length"
words_of_error Memory = codes "memory"
words_of_error Text = codes "move"
