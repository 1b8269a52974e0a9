use Rattle.ring_bench.proofs.Relayed.{has_relayed}
use Rattle.ring_bench.proofs.batch.relaying.finish.Goals as goal

pub returns : goal.returns
returns c =
    let met = c.meet.ensures in let relayed = c.requires in
    has_relayed c.args.way.now.from c.args.plan.load.frames c.args.way.now.frame.items c.args.sides.forwarder c.args.sides.device.rx c.meet.result met.met met.tx met.rx_controller
    relayed.enough relayed.stores
