-- So many queues are there, each as it is made.
use Rattle.std.proofs.Common.{replicate}
use Rattle.ring_model.specs.transmit.Ring.{tx_opening}
use Rattle.ring_machine.specs.transmit.Machine.{TxAgrees}
use Rattle.ring_machine.specs.Queues.{AllAgree}
use Rattle.ring_machine.proofs.queues.transmit_queues.Given as goal

abbrev pub invariant-loop : goal.invariant-loop
invariant-loop l = AllAgree TxAgrees l.queues.items (replicate l.counter (tx_opening l.n (record { enabled = l.enabled; completion = l.completion })))
