-- So many queues are there, each as it is made.
use Rattle.std.proofs.Common.{replicate}
use Rattle.ring_model.specs.receive.Ring.{rx_opening}
use Rattle.ring_machine.specs.receive.Machine.{RxAgrees}
use Rattle.ring_machine.specs.Queues.{AllAgree}
use Rattle.ring_machine.proofs.queues.receive_queues.Given as goal

abbrev pub invariant-loop : goal.invariant-loop
invariant-loop l = AllAgree RxAgrees l.queues.items (replicate l.counter (rx_opening l.n l.enabled))
