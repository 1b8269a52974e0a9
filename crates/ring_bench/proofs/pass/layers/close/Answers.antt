use Rattle.std.proofs.Common.{◌∙◌}
use Rattle.ring_bench.proofs.Layered.{has_gone}
use Rattle.ring_bench.proofs.pass.layers.close.Goals as goal

pub returns : goal.returns
returns c =
    let work = c.requires.work in let met = c.meet-ends.ensures in
    has_gone c.args.way.now.from c.args.way.now.to c.args.plan.load.frames c.args.way.now.frame.items c.args.sides.device c.meet-ends.result met.met
    (met.rx_controller ∙ c.into_end.ensures.end) (met.tx_controller ∙ c.into_end-2.ensures.end) work.serves c.requires.serving c.requires.sent
