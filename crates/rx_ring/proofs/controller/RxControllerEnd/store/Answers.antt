-- The record has the segment, and the fields keep up with it.
use Rattle.std.proofs.Common.{◌+◌, ap, ◌∙◌, if◌then◌else◌}
use Rattle.std.specs.Prelude.{◌==◌}
use Rattle.shared_ring.specs.Ends.{controller_of}
use Rattle.rx_ring.specs.Form.{rx}
use Rattle.rx_ring.proofs.InPlace.{store-keeps, store-segment}
use Rattle.rx_ring.proofs.controller.RxControllerEnd.store.Goals as goal

pub invariant_of-self : goal.invariant_of-self
invariant_of-self c = let i = c.self.inside in store-keeps (controller_of rx i.seat) i.at i.head i.finished c.self.invariant c.args.self.now c.self.view_is c.args.bytes.now c.args.eop c.requires.serving c.requires.free c.requires.held (controller_of rx c.store.new.seat) c.store.ensures c.place_after-self-inside.result
    (c.place_after-self-inside.ensures.value ∙ ap (λ n. if (i.at.serve + 1) == n then 0 else (i.at.serve + 1)) (c.self.invariant.size_is))

pub returns : goal.returns
returns c = let i = c.self.inside in store-segment (controller_of rx i.seat) i.at i.head i.finished c.self.invariant c.args.self.now c.self.view_is c.args.bytes.now c.args.eop c.requires.serving c.requires.free c.requires.held (controller_of rx c.store.new.seat) c.store.ensures
