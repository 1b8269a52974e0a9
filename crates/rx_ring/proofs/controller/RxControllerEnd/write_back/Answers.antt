-- The record has the segment that the buffer carries.
use Rattle.std.proofs.Common.{◌+◌, ap, ◌∙◌, if◌then◌else◌}
use Rattle.std.specs.Prelude.{◌==◌}
use Rattle.shared_ring.specs.Ends.{controller_of}
use Rattle.rx_ring.specs.Form.{rx}
use Rattle.rx_ring.proofs.ControllerEnds.{write_back-keeps, write_back-record}
use Rattle.rx_ring.proofs.controller.RxControllerEnd.write_back.Goals as goal

pub invariant_of-self : goal.invariant_of-self
invariant_of-self c = let i = c.self.inside in write_back-keeps (controller_of rx i.seat) i.at i.head i.finished c.self.invariant c.args.self.now c.self.view_is c.args.buf c.args.eop c.requires.held (controller_of rx c.write_back.new.seat) c.place_after-self-inside.result c.write_back.ensures
    (c.place_after-self-inside.ensures.value ∙ ap (λ n. if (i.at.serve + 1) == n then 0 else (i.at.serve + 1)) (c.self.invariant.size_is))

pub returns-clause-record : goal.returns-clause-record
returns-clause-record c = let i = c.self.inside in write_back-record (controller_of rx i.seat) i.at i.head i.finished c.self.invariant c.args.self.now c.self.view_is c.args.buf c.args.eop c.requires.held (controller_of rx c.write_back.new.seat) c.write_back.ensures
