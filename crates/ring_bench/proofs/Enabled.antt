-- An enabling leaves what was taken, and what was posted.
use Rattle.std.proofs.Common.{◌≡◌, Bool, true, false, ap}
use Rattle.ring_model.specs.shared.Handshakes.{is_open}
use Rattle.rx_ring.specs.Ends as receive
use Rattle.rx_ring.specs.Records.{RxDriven}
use Rattle.tx_ring.specs.Ends as transmit
use Rattle.tx_ring.specs.Records.{TxDriven}
use Rattle.driver.specs.Handshake.{AskedEnabling}
use Rattle.driver.specs.receive.Receiver.{Receiver}
use Rattle.driver.specs.transmit.Transmitter.{Transmitter}

pub taken-enabled : (old new : Receiver) (is : Bool) → is_open (receive.driver_state old.end) ≡ is → (is_open (receive.driver_state old.end) ≡ true → AskedEnabling old.end new.end)
    → (is_open (receive.driver_state old.end) ≡ false → new ≡ old) → receive.taken new.end ≡ receive.taken old.end
taken-enabled old new true e asked same = ap (λ (x : RxDriven). x.reaped) (asked e).did
taken-enabled old new false e asked same = ap (λ (r : Receiver). receive.taken r.end) (same e)

pub posted-enabled : (old new : Transmitter) (is : Bool) → is_open (transmit.driver_state old.end) ≡ is → (is_open (transmit.driver_state old.end) ≡ true → AskedEnabling old.end new.end)
    → (is_open (transmit.driver_state old.end) ≡ false → new ≡ old) → transmit.posted new.end ≡ transmit.posted old.end
posted-enabled old new true e asked same = ap (λ (x : TxDriven). x.posted) (asked e).did
posted-enabled old new false e asked same = ap (λ (t : Transmitter). transmit.posted t.end) (same e)
