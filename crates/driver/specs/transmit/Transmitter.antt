-- The view of a transmit driver in contracts.
use Rattle.std.specs.Prelude.{◌≡◌, ℕ, ◌+◌, ◌-◌, ◌<◌, ◌≤◌, true, false, List, length}
use Rattle.buffer_pool.specs.Buffer.{Buffer}
use Rattle.ring_model.specs.shared.Handshakes.{is_answered}
use Rattle.ring_model.specs.transmit.Ring.{are_whole}
use Rattle.tx_ring.specs.Ends.{DriverSide, driver_size, driver_state, posted, reclaimed, returned}

-- The driver's end; the interval, in frames, at which a report is asked for; and the number of frames posted in this
-- epoch, modulo that interval.
pub record Transmitter : Type 0 where
  pub end : DriverSide
  pub every : ℕ
  pub frames : ℕ

-- An end that a driver can take over: between two frames, and not seen disabled.
pub record IsReady (d : DriverSide) : Type 0 where
  pub whole : are_whole (posted d) ≡ true
  pub unanswered : is_answered (driver_state d) ≡ false

-- The invariants of a driver's fields. Until it saw its disabling answered, it reclaimed nothing.
pub record IsTxDriver (most : ℕ) (t : Transmitter) : Type 0 where
  pub whole : are_whole (posted t.end) ≡ true
  pub none_back : is_answered (driver_state t.end) ≡ false → reclaimed t.end ≡ 0
  pub counted : t.frames < t.every
  pub few : t.every ≤ most

-- The number of descriptors that can still be posted.
abbrev pub room_of : DriverSide → ℕ
room_of d = driver_size d + returned d - (length (posted d) + 1)

-- A driver with the worker's stash and the waiting packets.
pub record Sending : Type 0 where
  pub driver : Transmitter
  pub stash : List ℕ
  pub packets : List (List Buffer)

abbrev pub sending : Transmitter → List ℕ → List (List Buffer) → Sending
sending driver stash packets = record { driver = driver; stash = stash; packets = packets }
