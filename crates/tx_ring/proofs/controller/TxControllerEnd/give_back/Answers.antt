-- The record has what the descriptor and the buffer say.
use Rattle.std.proofs.Common.{◌+◌, ap, ◌∙◌, if◌then◌else◌}
use Rattle.std.specs.Prelude.{◌==◌}
use Rattle.shared_ring.specs.Ends.{controller_of}
use Rattle.tx_ring.specs.Form.{tx}
use Rattle.tx_ring.proofs.ControllerEnds.{send-head, send-keeps, send-step, send-record}
use Rattle.tx_ring.proofs.controller.TxControllerEnd.give_back.Goals as goal

pub send-requires-clause-head : goal.send-requires-clause-head
send-requires-clause-head c = let i = c.self.inside in send-head (controller_of tx i.seat) i.at i.last i.ends i.asks i.owed c.self.invariant c.args.self.now c.self.view_is c.args.buf c.requires.held c.place_after-head.result (c.place_after-head.ensures.value ∙ ap (λ n. if (i.at.serve + 1) == n then 0 else (i.at.serve + 1)) c.self.invariant.size_is)

pub invariant_of-self : goal.invariant_of-self
invariant_of-self c = let i = c.self.inside in send-keeps (controller_of tx i.seat) i.at i.last i.ends i.asks i.owed c.self.invariant c.args.self.now c.self.view_is c.args.buf c.requires.held (controller_of tx c.send.new.seat) c.place_after-head.result (c.place_after-head.ensures.value ∙ ap (λ n. if (i.at.serve + 1) == n then 0 else (i.at.serve + 1)) c.self.invariant.size_is) c.send.ensures

pub returns-clause-step : goal.returns-clause-step
returns-clause-step c = let i = c.self.inside in send-step (controller_of tx i.seat) i.at i.last i.ends i.asks i.owed c.self.invariant c.args.self.now c.self.view_is c.args.buf c.requires.held (controller_of tx c.send.new.seat) c.place_after-head.result (c.place_after-head.ensures.value ∙ ap (λ n. if (i.at.serve + 1) == n then 0 else (i.at.serve + 1)) c.self.invariant.size_is) c.send.ensures

pub returns-clause-record : goal.returns-clause-record
returns-clause-record c = let i = c.self.inside in send-record (controller_of tx i.seat) i.at i.last i.ends i.asks i.owed c.self.invariant c.args.self.now c.self.view_is c.args.buf c.requires.held (controller_of tx c.send.new.seat) c.place_after-head.result (c.place_after-head.ensures.value ∙ ap (λ n. if (i.at.serve + 1) == n then 0 else (i.at.serve + 1)) c.self.invariant.size_is) c.send.ensures
