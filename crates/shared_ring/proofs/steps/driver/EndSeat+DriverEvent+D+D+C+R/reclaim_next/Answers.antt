-- The places follow the buffer that came back.
use Rattle.shared_ring.specs.Ends.{driver_of}
use Rattle.shared_ring.proofs.Posting.{came-keeps}
use Rattle.shared_ring.proofs.steps.driver.EndSeat+DriverEvent+D+D+C+R.reclaim_next.Goals as goal

pub returns-clause-at : goal.returns-clause-at
returns-clause-at g c = came-keeps (driver_of g.R.Direction.form c.args.self.now) c.args.at.now c.requires.at (driver_of g.R.Direction.form c.reclaim-buf.new.self) c.reclaim-buf.result c.place_after-at.result c.requires.stopped c.if-at-eq0.false c.reclaim-buf.ensures c.place_after-at.ensures.value
