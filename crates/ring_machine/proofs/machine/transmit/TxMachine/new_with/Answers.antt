-- What is made agrees with the opening ring.
use Rattle.std.proofs.Common.{arith}
use Rattle.ring_machine.proofs.transmit.Running.{tx_begun-agrees}
use Rattle.ring_machine.proofs.machine.transmit.TxMachine.new_with.Goals as goal

pub returns-clause-made : goal.returns-clause-made
returns-clause-made c = let places = c.in_ok-queue.ensures.places in rw c.in_ok-queue.ensures.made (tx_begun-agrees c.args.n (record { enabled = c.args.enabled; completion = c.args.completion }) (omega arith))
