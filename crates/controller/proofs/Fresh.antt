-- An end that has done nothing stands between two frames.
use Rattle.std.proofs.Common.{◌≡◌, ◌∙◌, ℕ, ◌%◌, ◌<◌, true, [], length, ap, sym, arith}
use Rattle.std.proofs.lemmas.Bool.{false≢true}
use Rattle.limits.specs.RingLength.{IsRingLength}
use Rattle.ring_model.specs.shared.Segments.{ends_segment}
use Rattle.ring_model.specs.shared.Frames.{ends_frame}
use Rattle.ring_model.specs.shared.Handshakes.{is_serving}
use Rattle.ring_model.specs.transmit.Ring.{are_whole}
use Rattle.rx_ring.specs.Ends as rx
use Rattle.rx_ring.specs.Records as rx_records
use Rattle.rx_ring.specs.Calls.{IsFreshController}
use Rattle.tx_ring.specs.Ends as tx
use Rattle.tx_ring.specs.Records as tx_records
use Rattle.controller.specs.Receiving as receiving
use Rattle.controller.specs.Transmitting as transmitting

nowhere : (n : ℕ) → 0 < n → 0 ≡ 0 % n
nowhere n some = omega arith

pub fresh_receives : (c : rx.ControllerSide) → IsRingLength (rx.controller_size c) → IsFreshController c → receiving.IsIdle c
fresh_receives c lawful fresh = let least = lawful.0 in record {
  unheld = ap (λ es. (rx_records.controlling c.table.slots es).held) fresh;
  at_frame_end = ap (λ es. ends_frame ends_segment true (rx_records.controlling c.table.slots es).completed) fresh;
  head = ap (λ es. (rx_records.controlling c.table.slots es).head) fresh ∙ (nowhere c.table.slots (omega arith) ∙ sym (ap (λ es. length (rx_records.controlling c.table.slots es).completed % c.table.slots) fresh));
}

pub fresh_transmits : (c : tx.ControllerSide) → c.events ≡ [] → transmitting.IsIdle c
fresh_transmits c fresh = record {
  unheld = ap (λ es. (tx_records.controlling c.table.slots es).held) fresh;
  at_frame_end = ap (λ es. are_whole (tx_records.controlling c.table.slots es).completed) fresh;
  head = λ serves. absurd (false≢true (sym (ap (λ es. is_serving (tx_records.controlling c.table.slots es).state) fresh) ∙ serves));
  paid = ap (λ es. (tx_records.controlling c.table.slots es).barred) fresh;
}
