use Rattle.std.proofs.Common.{ap}
use Rattle.driver.specs.receive.Receiver.{Receiver}
use Rattle.examples.proofs.Moving.{lent-receiving}
use Rattle.examples.proofs.lent.Worker.enable_receive.Goals as goal

pub invariant_of-self-clause-lent : goal.invariant_of-self-clause-lent
invariant_of-self-clause-lent c =
    let s = c.args.self.now in let e = c.enable.ensures in
    lent-receiving s.pass.hand.held s.rx c.enable.new.self s.tx s.stash s.packets.items s.lent e.open e.shut (ap (λ (r : Receiver). r.chain) e.rest)
