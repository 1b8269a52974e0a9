-- The record has the posting, and the fields keep up with it.
use Rattle.std.proofs.Common.{◌+◌, ap, ◌∙◌, if◌then◌else◌}
use Rattle.std.specs.Prelude.{◌==◌}
use Rattle.shared_ring.specs.Ends.{controller_of}
use Rattle.tx_ring.specs.Form.{tx}
use Rattle.tx_ring.proofs.InPlace.{next-head, send-next-keeps, sent-next}
use Rattle.tx_ring.proofs.controller.TxControllerEnd.send.Goals as goal

pub send_next-word-requires-clause-head : goal.send_next-word-requires-clause-head
send_next-word-requires-clause-head g c = let i = c.self.inside in next-head (controller_of tx i.seat) i.at i.last i.ends i.asks i.owed c.self.invariant c.args.self.now c.self.view_is c.place_after-head.result (c.place_after-head.ensures.value ∙ ap (λ n. if (i.at.serve + 1) == n then 0 else (i.at.serve + 1)) c.self.invariant.size_is)

pub invariant_of-self : goal.invariant_of-self
invariant_of-self g c = let i = c.self.inside in send-next-keeps (controller_of tx i.seat) i.at i.last i.ends i.asks i.owed c.self.invariant c.args.self.now c.self.view_is c.place_after-head.result (c.place_after-head.ensures.value ∙ ap (λ n. if (i.at.serve + 1) == n then 0 else (i.at.serve + 1)) c.self.invariant.size_is)
    c.requires.serving c.requires.ready c.requires.held g.S.Sink.took c.args.sink.now c.send_next-word.result (controller_of tx c.send_next-word.new.seat) c.send_next-word.new.sink c.send_next-word.ensures c.ends_frame-ends.result c.asks_report-self-inside.result c.ends_frame-ends.ensures c.asks_report-self-inside.ensures

pub returns : goal.returns
returns g c = let i = c.self.inside in sent-next (controller_of tx i.seat) i.at i.last i.ends i.asks i.owed c.self.invariant c.args.self.now c.self.view_is c.place_after-head.result (c.place_after-head.ensures.value ∙ ap (λ n. if (i.at.serve + 1) == n then 0 else (i.at.serve + 1)) c.self.invariant.size_is)
    c.requires.serving c.requires.ready c.requires.held g.S.Sink.took c.args.sink.now c.send_next-word.result (controller_of tx c.send_next-word.new.seat) c.send_next-word.new.sink c.send_next-word.ensures c.ends_frame-ends.result c.asks_report-self-inside.result c.ends_frame-ends.ensures c.asks_report-self-inside.ensures
