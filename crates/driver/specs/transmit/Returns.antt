-- The buffers that a transmit driver returns from a disabled queue.
use Rattle.std.specs.Prelude.{◌≡◌, ℕ, true, List, length}
use Rattle.ring_model.specs.shared.Handshakes.{is_stopped}
use Rattle.ring_model.specs.transmit.Ring.{number_of_posting}
use Rattle.tx_ring.specs.Ends.{driver_state, posted, returned, known_of}
use Rattle.driver.specs.Reclaiming.{CameBack}
use Rattle.driver.specs.transmit.Transmitter.{Transmitter}

-- No buffer of a disabled queue is out.
pub record IsEmptied (t : Transmitter) : Type 0 where
  pub stopped : is_stopped (driver_state t.end) ≡ true
  pub none_out : returned t.end ≡ length (posted t.end)

-- The buffers that were out went into the stash, as many as fit.
pub record GaveBack (old : Transmitter) (had : List ℕ) (new : Transmitter) (has : List ℕ) : Type 0 where
  pub ring : CameBack number_of_posting old.end had new.end has
  pub known : known_of new.end ≡ known_of old.end
  pub rest : new ≡ record old { end = new.end }
