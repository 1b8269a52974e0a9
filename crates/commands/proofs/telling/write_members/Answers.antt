-- The members have the names of the side.
use Rattle.std.proofs.Common.{◌≡◌, Bool, true, false, refl, sym}
use Rattle.std.specs.Int.{from_bool}
use Rattle.ring_model.specs.shared.Agreement.{bit}
use Rattle.commands.proofs.telling.write_members.Goals as goal

bit_is : (b : Bool) → bit b ≡ from_bool b
bit_is true = refl
bit_is false = refl

pub returns-in-Receive : goal.returns-in-Receive
returns-in-Receive c = rw (c.in-Receive.is, bit_is c.args.registers.enable, sym c.from-enable.ensures) c.write.ensures.bytes

pub returns-in-Transmit : goal.returns-in-Transmit
returns-in-Transmit c = rw (c.in-Transmit.is, bit_is c.args.registers.enable, sym c.from-enable.ensures) c.write-in-Transmit.ensures.bytes
