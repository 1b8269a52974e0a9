-- The receive direction is one.
use Rattle.rx_ring.proofs.Lawful.{rx-lawful}
use Rattle.rx_ring.proofs.ring.RxRing.new.Goals as goal

pub deal-requires-clause-law : goal.deal-requires-clause-law
deal-requires-clause-law c = rx-lawful
