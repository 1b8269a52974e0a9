-- Settled and lasting facts of a receive ring.
use Rattle.std.specs.Prelude.{◌≡◌, ◌≤◌, Bool, true, ◌&&◌, ◌||◌}
use Rattle.ring_model.specs.shared.Handshakes.{has_ended, is_serving}
use Rattle.ring_model.specs.shared.Laws.{IsConcluded, Later}
use Rattle.ring_model.specs.receive.Ring.{RxRing, is_whole}

module _ {Payload : Type 0} where
  -- The controller stores no more in this epoch: it answered the disabling, or it said that it is quiet.
  abbrev pub rx_quiesced : RxRing Payload → Bool
  rx_quiesced r = has_ended r.handshake || (is_serving r.handshake.controller && r.still)

  -- Once the controller stores no more, no frame is unfinished. If the quiet word of this epoch is 1, the controller
  -- said so and stores no more.
  -- No worked row decides this; `rings_are_concluded` proves it of every reachable ring.
  pub record IsRxConcluded (r : RxRing Payload) : Type 0 where
    pub queue : IsConcluded r.queue
    pub whole : rx_quiesced r ≡ true → is_whole r ≡ true
    pub bit : r.quiet ≤ 1
    pub quiet : r.quiet ≡ 1 → rx_quiesced r ≡ true
    pub said : r.quiet ≡ 1 → r.still ≡ true

  abbrev pub RxLater : RxRing Payload → RxRing Payload → Type 0
  RxLater r later = Later r.queue (rx_quiesced r) later.queue (rx_quiesced later)
