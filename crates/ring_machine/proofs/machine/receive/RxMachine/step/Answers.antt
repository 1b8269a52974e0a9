-- The step is the ring's, or the ring has none.
use Rattle.std.proofs.Common.{sym}
use Rattle.ring_machine.proofs.receive.Running.{rx_moves-on, rx_refuses}
use Rattle.ring_machine.proofs.machine.receive.RxMachine.step.Goals as goal

pub returns-then-not-may-clause-follows : goal.returns-then-not-may-clause-follows
returns-then-not-may-clause-follows c = rx_refuses c.args.self.now c.args.step c.if-not-may.ensures.sound (sym c.if-not-may.ensures.told)

pub returns-clause-follows : goal.returns-clause-follows
returns-clause-follows c = rw (c.make.ensures.told, c.make.ensures.moved) (rx_moves-on c.args.self.now c.args.step c.if-not-may.ensures.sound (sym c.if-not-may.ensures.told))
