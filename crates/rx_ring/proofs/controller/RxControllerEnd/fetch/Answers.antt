-- The next buffer came out.
use Rattle.shared_ring.specs.Ends.{controller_of}
use Rattle.rx_ring.specs.Form.{rx}
use Rattle.rx_ring.proofs.ControllerEnds.{fetch-keeps, fetched}
use Rattle.rx_ring.proofs.controller.RxControllerEnd.fetch.Goals as goal

pub invariant_of-self : goal.invariant_of-self
invariant_of-self c = let i = c.self.inside in fetch-keeps (controller_of rx i.seat) i.at i.head i.finished c.self.invariant c.args.self.now c.self.view_is (controller_of rx c.fetch-buf.new.self) c.fetch-buf.result.0 c.fetch-buf.result.1 c.fetch-buf.ensures c.requires.serving c.requires.free

pub returns : goal.returns
returns c = let i = c.self.inside in fetched (controller_of rx i.seat) i.at i.head i.finished c.self.invariant c.args.self.now c.self.view_is (controller_of rx c.fetch-buf.new.self) c.fetch-buf.result.0 c.fetch-buf.result.1 c.fetch-buf.ensures
