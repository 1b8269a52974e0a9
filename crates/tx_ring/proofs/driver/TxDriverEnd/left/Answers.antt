-- The head was loaded, and tells how many are left.
use Rattle.std.proofs.Common.{ap}
use Rattle.std.specs.Box.{boxed_slice_items}
use Rattle.shared_ring.specs.Ends.{driver_of}
use Rattle.tx_ring.specs.Form.{tx}
use Rattle.tx_ring.proofs.DriverCalls.{left-keeps, left-found}
use Rattle.tx_ring.proofs.driver.TxDriverEnd.left.Goals as goal

pub invariant_of-self : goal.invariant_of-self
invariant_of-self c = let i = c.self.inside in left-keeps (driver_of tx i.seat) i.at i.seen i.done i.unseen i.whole (boxed_slice_items i.asks) i.passed c.self.invariant c.args.self.now c.self.view_is (driver_of tx c.load_head-head.new.self) c.load_head-head.result (ap (driver_of tx) c.load_head-head.ensures.step)

pub returns : goal.returns
returns c = let i = c.self.inside in left-found (driver_of tx i.seat) i.at i.seen i.done i.unseen i.whole (boxed_slice_items i.asks) i.passed c.self.invariant c.args.self.now c.self.view_is (driver_of tx c.load_head-head.new.self) c.load_head-head.result c.places_between.result (ap (driver_of tx) c.load_head-head.ensures.step) c.places_between.ensures.value
