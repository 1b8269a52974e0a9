-- A reachable ring has the invariant of steps, and is therefore concluded.
use Rattle.ring_model.proofs.receive.Reached.{rx_kept, rx_concluded}
use Rattle.ring_model.proofs.transmit.Reached.{tx_kept, tx_concluded}
use Rattle.ring_model.proofs.laws.rings_are_concluded.Goals as goal

pub returns : goal.returns
returns g c = record {
  rx_concluded = λ n r h e. rx_concluded n r (rx_kept n r h e);
  tx_concluded = λ n r h e. tx_concluded n r (tx_kept n r h e);
}
