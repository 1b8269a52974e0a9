-- The two ends of a transmit ring that handles hold, and their steps.
use Rattle.std.specs.Prelude.{◌≡◌, ◌≢◌, ℕ, Option, Bool, true, false, ◌++◌, length, drop, [], ◌∷◌}
use Rattle.std.specs.Int.{from_bool}
use Rattle.atomic_table.specs.Seated.{TableId}
use Rattle.buffer_pool.specs.Buffer.{Buffer, buffer}
use Rattle.ring_model.specs.declared.states.Completion.{Completion}
use Rattle.ring_model.specs.shared.Frames.{Bytes}
use Rattle.ring_model.specs.transmit.Agreement.{tx_word}
use Rattle.ring_model.specs.transmit.Lawful.{IsLawfulTxLedger}
use Rattle.ring_model.specs.transmit.Ring.{are_whole, new_posting}
use Rattle.shared_ring.specs.declared.events.DriverEvent.TheVariants as driver
use Rattle.shared_ring.specs.declared.events.ControllerEvent.TheVariants as controller
use Rattle.tx_ring.specs.Calls.{CleanedOne, FoundLeft, FoundReady, GoneOver, Polled, SawReported, report_of}
use Rattle.tx_ring.specs.Ends.{DriverSide, ControllerSide, controller_grown, driver_grown, controller_size, driver_size, fill_place, known_ready, posted, sent}
use Rattle.tx_ring.specs.Meeting.{IsTold, MadeSeats, ledger_of, sent_now, told_left}
use Rattle.tx_ring.specs.Records.{Posting}
use Rattle.poll82599_c.specs.Held.{Both, OfBoth}
use Rattle.poll82599_c.specs.rings.Following.{IsPosting}
use Rattle.poll82599_c.specs.rings.Steps as steps
use Rattle.poll82599_c.specs.declared.rings.partial_frame.PartialFrame.{PartialFrame}

-- both are fresh ends of one ring of n descriptors that reports in this way
abbrev pub AreMade : ℕ → Completion → Option DriverSide → Option ControllerSide → Type 0
AreMade n by = Both (λ d c. MadeSeats n by d.table d c)

-- if both are there, their records are those of one lawful ring: a beginning of what was posted was sent
abbrev pub AreLawful : Option DriverSide → Option ControllerSide → Type 0
AreLawful = OfBoth (λ d c. IsLawfulTxLedger Bytes (driver_size d) (ledger_of d c))

-- if the head was loaded, the number left is that of the posted segments that were not sent
abbrev pub AreTold : Option DriverSide → Option ControllerSide → Type 0
AreTold = OfBoth (λ d c. IsTold (told_left d) (length (sent_now d c)) (length (posted d)))

-- ---- a driver's steps

-- B1: one more segment of these bytes is posted, with EOP, RS and PAYLEN
pub record PostedSegment (bytes : Bytes) (eop rs : Bool) (paylen : ℕ) (old new : DriverSide) : Type 0 where
  pub number : ℕ
  pub step : new ≡ driver_grown old (driver.Posted (fill_place old) (tx_word (length bytes) eop rs paylen) (buffer number bytes))
  pub grew : posted new ≡ posted old ++ new_posting number bytes eop rs paylen ∷ []

-- B7: a load showed no report; or no report was outstanding, and no step was made
abbrev pub SawNoReport : DriverSide → DriverSide → Type 0
SawNoReport old new = Polled old false new

-- B8: the oldest buffer that was not cleaned is back
pub record CleanedBuffer (old new : DriverSide) : Type 0 where
  pub buf : Buffer
  pub clean : CleanedOne old buf new

-- the load of a report with this result
abbrev pub TriedReport : ℕ → DriverSide → DriverSide → Type 0
TriedReport answer old new = (answer ≡ 1 → SawReported old new) × (answer ≢ 1 → SawNoReport old new)

-- the step of an operation, by its number, with this result
abbrev pub Drove : ℕ → ℕ → ℕ → DriverSide → DriverSide → Type 0
Drove = steps.Drove GoneOver FoundLeft TriedReport

-- ---- a controller's steps

-- B4 and B5: one more segment is sent, its bytes are at the beginning of the room, and if it asks for a report the last
-- step (B6) reports it
pub record SentOne (len eop : ℕ) (before after : Bytes) (old new : ControllerSide) : Type 0 where
  pub item : Posting
  pub step : sent new ≡ sent old ++ item ∷ []
  pub len_is : len ≡ length item.payload
  pub eop_is : eop ≡ from_bool item.eop
  pub copied : after ≡ item.payload ++ drop (length item.payload) before
  pub given : ControllerSide
  pub sent_is : sent given ≡ sent new
  pub reported : item.rs ≡ true → new ≡ controller_grown given (controller.Own (report_of (controller_size given) given.completion (length (sent given))))
  pub unreported : item.rs ≡ false → new ≡ given

-- no descriptor was known to be ready, and a load of the tail (B3) showed none
pub record FoundNoneReady (old new : ControllerSide) : Type 0 where
  pub few_known : known_ready old ≡ 0
  pub looked : FoundReady old 0 new

-- nothing was sent or handed out; with result 0 none was ready, otherwise no step was made
pub record SentNone (answer : ℕ) (before after : Bytes) (old new : ControllerSide) : Type 0 where
  pub looked : answer ≡ 0 → FoundNoneReady old new
  pub still : answer ≢ 0 → new ≡ old
  pub kept : after ≡ before

-- a sending with this result
abbrev pub TriedSend : ℕ → ℕ → ℕ → Bytes → Bytes → ControllerSide → ControllerSide → Type 0
TriedSend answer len eop before after old new = (answer ≡ 1 → SentOne len eop before after old new) × (answer ≢ 1 → SentNone answer before after old new)

-- ---- the invariant of a driver's object: its end belongs to its ring, and of the unfinished frame this many segments
-- and bytes are posted, each with this PAYLEN
pub record IsDriving (ring : TableId) (d : DriverSide) (begun : PartialFrame) (paylen : ℕ) : Type 0 where
  pub own : d.table ≡ ring
  pub begun_is : are_whole (posted d) ≡ false → IsPosting (posted d) begun paylen
