-- The transmit direction is one.
use Rattle.tx_ring.proofs.Lawful.{tx-lawful}
use Rattle.tx_ring.proofs.ring.TxRing.new_with.Goals as goal

pub deal-requires-clause-law : goal.deal-requires-clause-law
deal-requires-clause-law c = tx-lawful
