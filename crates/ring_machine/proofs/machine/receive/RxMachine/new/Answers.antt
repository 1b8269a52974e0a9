-- What is made agrees with the opening ring.
use Rattle.std.proofs.Common.{arith}
use Rattle.ring_machine.proofs.receive.Running.{rx_begun-agrees}
use Rattle.ring_machine.proofs.machine.receive.RxMachine.new.Goals as goal

pub returns-clause-made : goal.returns-clause-made
returns-clause-made c = let places = c.in_ok-queue.ensures.places in rw c.in_ok-queue.ensures.made (rx_begun-agrees c.args.n c.args.enabled (omega arith))
