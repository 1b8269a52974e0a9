-- What the word tells is kept.
use Rattle.shared_ring.specs.Ends.{controller_of}
use Rattle.rx_ring.specs.Form.{rx}
use Rattle.rx_ring.proofs.ControllerEnds.{load-keeps}
use Rattle.rx_ring.proofs.controller.RxControllerEndControllerEndRxDriverOwnRxControllerOwnRxRule.load.Goals as goal

pub invariant_of-self : goal.invariant_of-self
invariant_of-self c = let i = c.self.inside in load-keeps (controller_of rx i.seat) i.at i.head i.finished c.self.invariant c.args.self.now c.self.view_is (controller_of rx c.load.new.self) c.args.which c.load.result c.load.new.at c.load.ensures.loaded c.load.ensures.at
