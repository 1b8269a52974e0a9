-- They are those that the queues have.
use Rattle.ring_machine.specs.Registers.{QueuesRead}
use Rattle.commands.proofs.replay.shown_registers.Goals as goal

pub returns-then-shown : goal.returns-then-shown
unfolding QueuesRead
returns-then-shown c = λ w agrees. rw c.if-shown.true (c.registers.ensures w agrees)
