-- A reachable ring has the invariant of steps, and is therefore lawful.
use Rattle.ring_model.proofs.receive.Reached.{rx_kept, rx_lawful}
use Rattle.ring_model.proofs.transmit.Reached.{tx_kept, tx_lawful}
use Rattle.ring_model.proofs.laws.rings_are_lawful.Goals as goal

pub returns : goal.returns
returns g c = record {
  rx_lawful = λ n r h e. rx_lawful n r (rx_kept n r h e);
  tx_lawful = λ n r h e. tx_lawful n r (tx_kept n r h e);
}
