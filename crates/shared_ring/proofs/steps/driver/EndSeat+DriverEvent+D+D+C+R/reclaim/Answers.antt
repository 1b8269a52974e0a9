-- The agreement allows it, and the buffer is that of the oldest posting that is out.
use Rattle.shared_ring.proofs.Reclaiming.{may-reclaim}
use Rattle.shared_ring.proofs.steps.driver.EndSeat+DriverEvent+D+D+C+R.reclaim.Goals as goal

pub clear_own-requires-clause-may : goal.clear_own-requires-clause-may
clear_own-requires-clause-may g c = let e = c.args.self.now in may-reclaim g.R.Direction.form c.size-size.ensures.law e.table.slots e.completion e.events c.args.place c.requires.place c.requires.stopped c.requires.out
