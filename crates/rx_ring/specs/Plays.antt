-- The steps that only the receive ring has: the event of each, and what else it establishes.
use Rattle.std.specs.Prelude.{◌≡◌, ℕ, ◌%◌, ◌≤◌, Bool, ◌==◌, List, length, Some, slice_get}
use Rattle.buffer_pool.specs.Buffer.{Buffer, buffer}
use Rattle.ring_model.specs.shared.Frames.{Follows, unfinished}
use Rattle.ring_model.specs.shared.Segments.{piece_of}
use Rattle.ring_model.specs.receive.Agreement.{rx_word}
use Rattle.shared_ring.specs.declared.events.DriverEvent.TheVariants as driver
use Rattle.shared_ring.specs.declared.events.ControllerEvent.TheVariants as controller
use Rattle.rx_ring.specs.declared.events.RxDriverOwn.TheVariants.{NotDone, Taken, LoadedQuiet, ClearedQuiet}
use Rattle.rx_ring.specs.declared.events.RxControllerOwn.TheVariants.{WroteBack, SaidQuiet}
use Rattle.rx_ring.specs.Records.{DriverStep, ControllerStep, driving, eop_of}

-- A6: a descriptor with DD. Its buffer is the next posted one in order, the word holds its length, and its bytes follow
-- the frame so far.
abbrev pub takes : ℕ → List DriverStep → ℕ → ℕ → Buffer → DriverStep
takes n es place r b = driver.Own (Taken place r b)

pub record TakesOut (n : ℕ) (es : List DriverStep) (place r : ℕ) (buf : Buffer) : Type 0 where
  pub number : slice_get (driving es).posted (length (driving es).reaped) ≡ Some buf.number
  pub word : r ≡ rx_word (length buf.bytes) (eop_of r)
  pub real : buf ≡ buffer buf.number buf.bytes
  pub follows : Follows piece_of n (unfinished piece_of (driving es).reaped) buf.bytes (eop_of r)

-- A6: a descriptor without DD.
abbrev pub finds_none : ℕ → ℕ → DriverStep
finds_none place r = driver.Own (NotDone place r)

abbrev pub is_done : ℕ → Bool
is_done word = word % 2 == 1

-- C8: the quiet word is loaded as 0 or 1.
abbrev pub loads_quiet : ℕ → List DriverStep → ℕ → ℕ → Buffer → DriverStep
loads_quiet n es place r b = driver.Own (LoadedQuiet r)

abbrev pub IsBit : ℕ → List DriverStep → ℕ → ℕ → Buffer → Type 0
IsBit n es place r b = r ≤ 1

-- C11: the quiet word is 0 again.
abbrev pub clears_quiet : ℕ → List DriverStep → ℕ → ℕ → Buffer → DriverStep
clears_quiet n es place r b = driver.Own ClearedQuiet

-- A5: the next descriptor is written back, with DD.
abbrev pub writes_back : ℕ → List ControllerStep → ℕ → ℕ → Buffer → ControllerStep
writes_back n es place r b = controller.Own (WroteBack place r b)

-- A7: the head (RDH) is stored.
abbrev pub stores_head : ℕ → List ControllerStep → ℕ → ℕ → Buffer → ControllerStep
stores_head n es place r b = controller.StoredHead r

-- C7: the quiet word is stored as 1.
abbrev pub says_quiet : ℕ → List ControllerStep → ℕ → ℕ → Buffer → ControllerStep
says_quiet n es place r b = controller.Own SaidQuiet
