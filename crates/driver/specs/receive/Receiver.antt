-- The view of an `RxDriver` in contracts.
use Rattle.std.specs.Prelude.{◌≡◌, ℕ, ◌<◌, ◌≤◌, true, false, All, List, []}
use Rattle.buffer_pool.specs.Buffer.{Buffer}
use Rattle.ring_model.specs.shared.Segments.{piece_of}
use Rattle.ring_model.specs.shared.Frames.{unfinished}
use Rattle.ring_model.specs.shared.Handshakes.{is_answered, is_stopped}
use Rattle.rx_ring.specs.Ends.{DriverSide, driver_state, reclaimed, taken}
use Rattle.driver.specs.receive.Chains.{HasSegment, IsRest}
use Rattle.driver.specs.receive.Batches.{Hands}

-- The driver's end, the buffers of an unfinished frame, and the number of packets in a batch.
pub record Receiver : Type 0 where
  pub end : DriverSide
  pub chain : List Buffer
  pub batch : ℕ

-- An end that a driver can take over: between two frames, not seen disabled, and nothing reclaimed.
pub record IsReady (d : DriverSide) : Type 0 where
  pub between : unfinished piece_of (taken d) ≡ []
  pub going : is_answered (driver_state d) ≡ false
  pub none_back : reclaimed d ≡ 0

-- The invariants of every driver. Until it saw its disabling answered, it reclaimed nothing, and its chain is the
-- unfinished frame of the taken segments. After that it is stopped until it is renewed.
pub record IsRxDriver (most : ℕ) (r : Receiver) : Type 0 where
  pub some_batch : 0 < r.batch
  pub few_batch : r.batch ≤ most
  pub each : All HasSegment r.chain
  pub rest : is_answered (driver_state r.end) ≡ false → IsRest r.end r.chain
  pub none_back : is_answered (driver_state r.end) ≡ false → reclaimed r.end ≡ 0
  pub stays : is_answered (driver_state r.end) ≡ true → is_stopped (driver_state r.end) ≡ true

-- The state that a batch works on.
abbrev pub hands : Receiver → List ℕ → List (List Buffer) → Hands
hands r stash list = record { end = r.end; chain = r.chain; stash = stash; list = list }
