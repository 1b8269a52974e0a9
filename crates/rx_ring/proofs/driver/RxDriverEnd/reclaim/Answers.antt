-- The oldest buffer that was out came back.
use Rattle.shared_ring.specs.Ends.{driver_of}
use Rattle.rx_ring.specs.Form.{rx}
use Rattle.rx_ring.proofs.DriverCalls.{back-keeps, back-home}
use Rattle.rx_ring.proofs.driver.RxDriverEnd.reclaim.Goals as goal

pub invariant_of-self : goal.invariant_of-self
invariant_of-self c = let i = c.self.inside in back-keeps (driver_of rx i.seat) i.at c.self.invariant c.args.self.now c.self.view_is c.reclaim_next.result (driver_of rx c.reclaim_next.new.self) c.reclaim_next.new.at c.reclaim_next.ensures.back c.reclaim_next.ensures.at

pub returns-clause-back : goal.returns-clause-back
returns-clause-back c = let i = c.self.inside in back-home (driver_of rx i.seat) i.at c.self.invariant c.args.self.now c.self.view_is c.reclaim_next.result (driver_of rx c.reclaim_next.new.self) c.reclaim_next.ensures.back
