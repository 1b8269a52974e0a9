use Rattle.ring_bench.proofs.BothMet.{has_met}
use Rattle.ring_bench.proofs.kit.meeting.meet.Goals as goal

pub returns-clause-met : goal.returns-clause-met
returns-clause-met c =
    let ends = c.into_ends-rx.ensures in let received = c.meet_rx.ensures in let sent = c.meet_tx.ensures in
    rw (received.same_driver, received.same_controller, sent.same_driver, sent.same_controller)
    (has_met c.args.from.now c.args.to.now c.args.forwarder _ _ _ _ c.requires.forwards ends.rx ends.tx c.requires.stores c.requires.sends received.lawful sent.lawful)
