-- A reachable ring has the invariant of steps, so its counts are in order.
use Rattle.ring_model.proofs.receive.Reached.{rx_kept, rx_ordered}
use Rattle.ring_model.proofs.transmit.Reached.{tx_kept, tx_ordered}
use Rattle.ring_model.proofs.laws.counts_are_ordered.Goals as goal

pub returns : goal.returns
returns g c = record {
  rx_ordered = λ n r h e. rx_ordered n r (rx_kept n r h e);
  tx_ordered = λ n r h e. tx_ordered n r (tx_kept n r h e);
}
