-- One queue more agrees with one ring more.
use Rattle.std.proofs.Common.{◌≡◌, ℕ, replicate, subst, arith}
use Rattle.ring_model.specs.receive.Ring.{rx_opening}
use Rattle.ring_machine.specs.receive.Machine.{RxAgrees}
use Rattle.ring_machine.specs.Queues.{AllAgree}
use Rattle.ring_machine.proofs.SideBySide.{none-agree, pushed-agrees}
use Rattle.ring_machine.proofs.queues.receive_queues.Goals as goal

pub loop-init : goal.loop-init
loop-init c = rw c.new-queues.ensures.items (none-agree RxAgrees)

pub loop-preserved : goal.loop-preserved
loop-preserved c = pushed-agrees RxAgrees c.loop.queues.items (rx_opening c.args.n c.args.enabled) c.loop.counter c.in_ok-queue.queue c.push.new.self.items c.push.result c.push.ensures.items c.if-is_err.ensures.value c.loop.invariant c.in_ok-queue.ensures.made

pub returns-clause-made : goal.returns-clause-made
returns-clause-made c = let most = c.loop.auto.counter-end in let least = c.loop-test.false in let all : c.loop.counter ≡ c.args.pairs = omega arith in
    subst (λ (k : ℕ). AllAgree RxAgrees c.loop.queues.items (replicate k (rx_opening c.args.n c.args.enabled))) all c.loop.invariant
