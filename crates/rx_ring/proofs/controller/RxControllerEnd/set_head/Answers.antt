-- The head is the place after the last stored segment.
use Rattle.std.proofs.Common.{ℕ, sym, ap, ◌∙◌, subst}
use Rattle.ring_model.specs.shared.Handshakes.{is_serving}
use Rattle.shared_ring.specs.Ends.{controller_of}
use Rattle.shared_ring.specs.Own.{MayStore}
use Rattle.rx_ring.specs.Ends.{controller_state, held}
use Rattle.rx_ring.specs.Plays.{stores_head}
use Rattle.rx_ring.proofs.Owning.{may-set_head}
use Rattle.rx_ring.specs.Form.{rx}
use Rattle.rx_ring.proofs.ControllerEnds.{head-keeps, head-record}
use Rattle.rx_ring.proofs.controller.RxControllerEnd.set_head.Goals as goal

pub store_own-requires-clause-may : goal.store_own-requires-clause-may
store_own-requires-clause-may c = let i = c.self.inside in let e = i.seat in let k = c.self.invariant in
    subst (λ (n : ℕ). MayStore rx stores_head e.table.slots e.completion e.events n i.at.serve) (sym k.size_is)
    (may-set_head e.table.slots e.completion e.events i.at.serve k.serve_is (ap (λ s. is_serving (controller_state s)) c.self.view_is ∙ c.requires.serving) (ap (λ s. held s) c.self.view_is ∙ c.requires.held))

pub invariant_of-self : goal.invariant_of-self
invariant_of-self c = let i = c.self.inside in head-keeps (controller_of rx i.seat) i.at i.head i.finished c.self.invariant c.args.self.now c.self.view_is (controller_of rx c.store_own.new.self) (ap (controller_of rx) c.store_own.ensures)

pub returns-clause-record : goal.returns-clause-record
returns-clause-record c = let i = c.self.inside in head-record (controller_of rx i.seat) i.at i.head i.finished c.self.invariant c.args.self.now c.self.view_is (controller_of rx c.store_own.new.self) (ap (controller_of rx) c.store_own.ensures)
