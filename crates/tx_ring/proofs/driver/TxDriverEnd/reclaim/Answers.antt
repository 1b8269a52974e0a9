-- The oldest buffer that was out came back.
use Rattle.std.specs.Box.{boxed_slice_items}
use Rattle.shared_ring.specs.Ends.{driver_of}
use Rattle.tx_ring.specs.Form.{tx}
use Rattle.tx_ring.proofs.DriverCalls.{back-keeps, back-home}
use Rattle.tx_ring.proofs.driver.TxDriverEnd.reclaim.Goals as goal

pub invariant_of-self : goal.invariant_of-self
invariant_of-self c = let i = c.self.inside in back-keeps (driver_of tx i.seat) i.at i.seen i.done i.unseen i.whole (boxed_slice_items i.asks) i.passed c.self.invariant c.args.self.now c.self.view_is c.reclaim_next.result (driver_of tx c.reclaim_next.new.self) c.reclaim_next.new.at c.reclaim_next.ensures.back c.reclaim_next.ensures.at

pub returns-clause-back : goal.returns-clause-back
returns-clause-back c = let i = c.self.inside in back-home (driver_of tx i.seat) i.at i.seen i.done i.unseen i.whole (boxed_slice_items i.asks) i.passed c.self.invariant c.args.self.now c.self.view_is c.reclaim_next.result (driver_of tx c.reclaim_next.new.self) c.reclaim_next.ensures.back
