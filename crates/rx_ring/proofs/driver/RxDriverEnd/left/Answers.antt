-- The head was loaded, and tells how many are left.
use Rattle.std.proofs.Common.{ap}
use Rattle.shared_ring.specs.Ends.{driver_of}
use Rattle.rx_ring.specs.Form.{rx}
use Rattle.rx_ring.proofs.DriverCalls.{left-keeps, left-found}
use Rattle.rx_ring.proofs.driver.RxDriverEnd.left.Goals as goal

pub invariant_of-self : goal.invariant_of-self
invariant_of-self c = let i = c.self.inside in left-keeps (driver_of rx i.seat) i.at c.self.invariant c.args.self.now c.self.view_is (driver_of rx c.load_head-head.new.self) c.load_head-head.result (ap (driver_of rx) c.load_head-head.ensures.step)

pub returns : goal.returns
returns c = let i = c.self.inside in left-found (driver_of rx i.seat) i.at c.self.invariant c.args.self.now c.self.view_is (driver_of rx c.load_head-head.new.self) c.load_head-head.result c.places_between.result (ap (driver_of rx) c.load_head-head.ensures.step) c.requires.whole c.places_between.ensures.value
