-- A reachable ring has the invariant of steps, which includes the table of control words.
use Rattle.ring_model.proofs.receive.Reached.{rx_kept}
use Rattle.ring_model.proofs.transmit.Reached.{tx_kept}
use Rattle.ring_model.proofs.laws.control_words_fit.Goals as goal

pub returns : goal.returns
returns g c = record {
  rx_control = λ n r h e. let k = rx_kept n r h e in k.queue.handshake_fits.control_fits;
  tx_control = λ n r h e. let k = tx_kept n r h e in k.queue.handshake_fits.control_fits;
}
