-- The agreement allows the step.
use Rattle.tx_ring.proofs.Owning.{may-clean}
use Rattle.tx_ring.proofs.steps.driver.clean.Goals as goal

pub clear_own-requires-clause-may : goal.clear_own-requires-clause-may
clear_own-requires-clause-may c = let e = c.args.seat.now in may-clean e.table.slots e.completion e.events c.args.place c.requires.place c.requires.live c.requires.reported
