-- What the word tells is kept.
use Rattle.shared_ring.specs.Ends.{controller_of}
use Rattle.tx_ring.specs.Form.{tx}
use Rattle.tx_ring.proofs.ControllerEnds.{load-keeps}
use Rattle.tx_ring.proofs.controller.TxControllerEndControllerEndTxDriverOwnTxControllerOwnTxRule.load.Goals as goal

pub invariant_of-self : goal.invariant_of-self
invariant_of-self c = let i = c.self.inside in load-keeps (controller_of tx i.seat) i.at i.last i.ends i.asks i.owed c.self.invariant c.args.self.now c.self.view_is (controller_of tx c.load.new.self) c.args.which c.load.result c.load.new.at c.load.ensures.loaded c.load.ensures.at
