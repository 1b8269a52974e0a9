use Rattle.std.proofs.Common.{arith}
use Rattle.descriptor.proofs.BufferAddress.{address-other}
use Rattle.descriptor.proofs.address.number_at.Goals as goal

pub returns-else-address-address_of-clause-none : goal.returns-else-address-address_of-clause-none
returns-else-address-address_of-clause-none c =
    address-other c.args.address c.bits-number.result (omega arith) c.bits-number.ensures (omega arith)
