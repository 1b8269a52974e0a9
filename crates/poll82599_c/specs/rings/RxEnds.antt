-- The two ends of a receive ring that handles hold, and their steps.
use Rattle.std.specs.Prelude.{◌≡◌, ◌≢◌, ℕ, ◌⊎◌, Option, Bool, false, if◌then◌else◌, ◌++◌, length, drop, [], ◌∷◌}
use Rattle.std.specs.Int.{from_bool}
use Rattle.atomic_table.specs.Seated.{TableId}
use Rattle.buffer_pool.specs.Buffer.{Buffer, buffer}
use Rattle.ring_model.specs.receive.Agreement.{rx_word}
use Rattle.ring_model.specs.receive.Lawful.{IsLawfulRxLedger}
use Rattle.ring_model.specs.shared.Frames.{Bytes}
use Rattle.ring_model.specs.shared.Segments.{piece_of}
use Rattle.shared_ring.specs.declared.events.DriverEvent.TheVariants as driver
use Rattle.shared_ring.specs.declared.events.ControllerEvent.TheVariants as controller
use Rattle.rx_ring.specs.Calls.{FoundFree, FoundLeft, GoneOver, IsTold, SawNotDone, TookSegment, told_left}
use Rattle.rx_ring.specs.declared.events.RxDriverOwn.TheVariants.{LoadedQuiet}
use Rattle.rx_ring.specs.declared.events.RxControllerOwn.TheVariants.{SaidQuiet, WroteBack}
use Rattle.rx_ring.specs.Ends.{DriverSide, ControllerSide, controller_grown, driver_grown, driver_size, fill_place, is_at_frame_end, known_free, reclaimed, serve_place, stored, taken}
use Rattle.rx_ring.specs.Meeting.{MadeSeats, ledger_of, stored_now}
use Rattle.poll82599_c.specs.Held.{Both, OfBoth}
use Rattle.poll82599_c.specs.rings.Following.{IsBegun}
use Rattle.poll82599_c.specs.rings.Steps as steps
use Rattle.poll82599_c.specs.declared.rings.partial_frame.PartialFrame.{PartialFrame}

-- both are fresh ends of one ring of n descriptors
abbrev pub AreMade : ℕ → Option DriverSide → Option ControllerSide → Type 0
AreMade n = Both (λ d c. MadeSeats n d.table d c)

-- if both are there, their records are those of one lawful ring: the driver took a beginning of what was stored
abbrev pub AreLawful : Option DriverSide → Option ControllerSide → Type 0
AreLawful = OfBoth (λ d c. IsLawfulRxLedger Bytes (driver_size d) (ledger_of d c))

-- if the head was loaded, the number left is that of the stored segments that were not taken
abbrev pub AreTold : Option DriverSide → Option ControllerSide → Type 0
AreTold = OfBoth (λ d c. IsTold (told_left d) (length (taken d)) (length (stored_now d c)))

-- ---- a driver's steps

-- A1: an empty buffer is posted in the next descriptor
pub record PostedOne (old new : DriverSide) : Type 0 where
  pub buf : Buffer
  pub step : new ≡ driver_grown old (driver.Posted (fill_place old) 0 buf)

-- A6: one more segment is taken, and its bytes are at the beginning of the room
pub record TookOne (len eop : ℕ) (before after : Bytes) (old new : DriverSide) : Type 0 where
  pub buf : Buffer
  pub ends : Bool
  pub took : TookSegment old buf ends new
  pub len_is : len ≡ length buf.bytes
  pub eop_is : eop ≡ from_bool ends
  pub copied : after ≡ buf.bytes ++ drop (length buf.bytes) before

-- nothing was taken or handed out; with result 0 the next descriptor was loaded and had no DD, otherwise no step was
-- made
pub record TookNone (answer : ℕ) (before after : Bytes) (old new : DriverSide) : Type 0 where
  pub loaded : answer ≡ 0 → SawNotDone old new
  pub still : answer ≢ 0 → new ≡ old
  pub kept : after ≡ before

-- C8: the quiet word had this value
abbrev pub FoundQuiet : ℕ → DriverSide → DriverSide → Type 0
FoundQuiet value old new = new ≡ driver_grown old (driver.Own (LoadedQuiet value))

-- a poll with this result
abbrev pub TriedPoll : ℕ → ℕ → ℕ → Bytes → Bytes → DriverSide → DriverSide → Type 0
TriedPoll answer len eop before after old new = (answer ≡ 1 → TookOne len eop before after old new) × (answer ≢ 1 → TookNone answer before after old new)

-- the step of an operation, by its number, with this result
abbrev pub Drove : ℕ → ℕ → ℕ → DriverSide → DriverSide → Type 0
Drove = steps.Drove GoneOver FoundLeft FoundQuiet

-- ---- a controller's steps

-- A4 and A5, and A7 if it ends its frame: one more segment of these bytes is stored
pub record WroteOne (bytes : Bytes) (eop : Bool) (old new : ControllerSide) : Type 0 where
  pub number : ℕ
  pub written : ControllerSide
  pub segment : written ≡ controller_grown (controller_grown old (controller.Fetched (serve_place old) 0 (buffer number []))) (controller.Own (WroteBack (serve_place old) (rx_word (length bytes) eop) (buffer number bytes)))
  pub head : new ≡ (if eop then controller_grown written (controller.StoredHead (serve_place written)) else written)
  pub grew : stored new ≡ stored old ++ record { number = number; payload = bytes; eop = eop } ∷ []

-- the same; a descriptor was known to be free, or a load of the tail (A3) showed one
pub record StoredOne (bytes : Bytes) (eop : Bool) (old new : ControllerSide) : Type 0 where
  pub ready : ControllerSide
  pub knew : (ready ≡ old) ⊎ ((free : ℕ) × FoundFree old free ready)
  pub wrote : WroteOne bytes eop ready new
  pub grew : stored new ≡ stored old ++ record { number = wrote.number; payload = bytes; eop = eop } ∷ []

-- no descriptor was known to be free, and a load of the tail (A3) showed none
pub record FoundNoneFree (old new : ControllerSide) : Type 0 where
  pub few_known : known_free old ≡ 0
  pub looked : FoundFree old 0 new

-- C7
abbrev pub SaidNoMore : ControllerSide → ControllerSide → Type 0
SaidNoMore old new = new ≡ controller_grown old (controller.Own SaidQuiet)

-- a storing with this result
abbrev pub TriedStore : ℕ → Bytes → Bool → ControllerSide → ControllerSide → Type 0
TriedStore answer bytes eop old new = (answer ≡ 1 → StoredOne bytes eop old new) × (answer ≡ 0 → FoundNoneFree old new) × (answer ≢ 0 → answer ≢ 1 → new ≡ old)

-- ---- the invariants of the objects behind the handles

-- the end belongs to the object's ring, and of the unfinished frame this many segments and bytes are stored
pub record IsServing (ring : TableId) (c : ControllerSide) (begun : PartialFrame) : Type 0 where
  pub own : c.table ≡ ring
  pub begun_is : is_at_frame_end c ≡ false → IsBegun piece_of (stored c) begun

-- the end belongs to the object's ring, and no buffer was reclaimed in this epoch unless `reclaiming`
pub record IsDriving (ring : TableId) (d : DriverSide) (reclaiming : Bool) : Type 0 where
  pub own : d.table ≡ ring
  pub none_back : reclaiming ≡ false → reclaimed d ≡ 0
