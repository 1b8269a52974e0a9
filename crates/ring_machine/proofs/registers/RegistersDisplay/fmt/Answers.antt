-- The names are those of the side.
use Rattle.std.proofs.Common.{◌≡◌, Bool, true, false, refl, sym}
use Rattle.std.specs.Int.{from_bool}
use Rattle.ring_model.specs.shared.Agreement.{bit}
use Rattle.ring_machine.proofs.registers.RegistersDisplay.fmt.Goals as goal

bit_is : (b : Bool) → bit b ≡ from_bool b
bit_is true = refl
bit_is false = refl

pub returns-in-Receive-clause-writes : goal.returns-in-Receive-clause-writes
returns-in-Receive-clause-writes g c = λ plain ok. rw (c.in-Receive.is, bit_is c.args.self.now.enable, sym c.from-enable.ensures) (c.write.ensures.writes plain ok)

pub returns-in-Transmit-clause-writes : goal.returns-in-Transmit-clause-writes
returns-in-Transmit-clause-writes g c = λ plain ok. rw (c.in-Transmit.is, bit_is c.args.self.now.enable, sym c.from-enable.ensures) (c.write-in-Transmit.ensures.writes plain ok)
