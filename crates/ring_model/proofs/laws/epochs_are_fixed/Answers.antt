-- What goes on from a ring that a schedule gave is later, and a schedule gave it too.
use Rattle.ring_model.specs.receive.Ring.{rx_opening}
use Rattle.ring_model.specs.receive.Steps.{rx_can, rx_changed}
use Rattle.ring_model.specs.transmit.Ring.{tx_opening}
use Rattle.ring_model.specs.transmit.Steps.{tx_can, tx_changed}
use Rattle.ring_model.proofs.shared.Reaching.{reached-more}
use Rattle.ring_model.proofs.receive.Reached.{rx_kept, rx_later-all}
use Rattle.ring_model.proofs.transmit.Reached.{tx_kept, tx_later-all}
use Rattle.ring_model.proofs.laws.epochs_are_fixed.Goals as goal

pub returns : goal.returns
returns g c = record {
  rx_later = λ n r more h e. rx_later-all n r more (rx_kept n r h e);
  rx_reached = λ n r more e. reached-more rx_can rx_changed (rx_opening n) r more e;
  rx_size = λ n r h e. let k = rx_kept n r h e in let q = k.queue in q.size_is;
  tx_later = λ n r more h e. tx_later-all n r more (tx_kept n r h e);
  tx_reached = λ n r more e. reached-more tx_can tx_changed (tx_opening n) r more e;
  tx_size = λ n r h e. let k = tx_kept n r h e in let q = k.queue in q.size_is;
}
