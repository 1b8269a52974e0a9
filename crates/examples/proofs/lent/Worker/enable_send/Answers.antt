use Rattle.examples.proofs.Moving.{lent-sending}
use Rattle.examples.proofs.lent.Worker.enable_send.Goals as goal

pub invariant_of-self-clause-lent : goal.invariant_of-self-clause-lent
invariant_of-self-clause-lent c =
    let s = c.args.self.now in let e = c.enable.ensures in
    lent-sending s.pass.hand.held s.rx s.tx c.enable.new.self s.stash s.packets.items s.lent e.open e.shut
