-- The agreement allows the load, and where DD is set its buffer comes out.
use Rattle.rx_ring.proofs.Owning.{may-take}
use Rattle.rx_ring.proofs.steps.driver.take.Goals as goal

pub take_own-word-requires-clause-may : goal.take_own-word-requires-clause-may
take_own-word-requires-clause-may c = let e = c.args.seat.now in may-take e.table.slots e.completion e.events c.args.place c.requires.place c.requires.live c.requires.out
