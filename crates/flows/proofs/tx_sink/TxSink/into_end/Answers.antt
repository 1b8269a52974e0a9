use Rattle.std.proofs.Common.{ap, sym}
use Rattle.ring_model.specs.shared.Frames.{frames}
use Rattle.ring_model.specs.transmit.Ring.{carried}
use Rattle.tx_ring.specs.Ends.{ControllerSide, sent}
use Rattle.flows.specs.Served.{TxSink}
use Rattle.flows.proofs.tx_sink.TxSink.into_end.Goals as goal

pub returns-clause-sent : goal.returns-clause-sent
returns-clause-sent c =
    let i = c.self.inside in let s = c.into_sent.result in
    rw (sym (ap (λ (w : TxSink). w.output.keep) c.self.view_is), ap (λ (x : ControllerSide). frames carried (sent x)) c.into_end.ensures.end)
    (c.into_sent.ensures (frames carried (sent i.controller)) c.self.invariant.output)
