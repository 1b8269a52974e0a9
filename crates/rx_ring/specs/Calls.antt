-- The effects of both ends' calls whose result depends on a loaded value, and the invariants of an end's fields.
use Rattle.std.specs.Prelude.{◌≡◌, ℕ, ◌+◌, ◌%◌, ◌<◌, Bool, true, false, ◌||◌, ◌&&◌, [], ◌∷◌, ◌++◌, length, Option, Some, None, slice_get, ◌==◌}
use Rattle.buffer_pool.specs.Buffer.{Buffer, buffer}
use Rattle.ring_model.specs.receive.Agreement.{rx_word}
use Rattle.ring_model.specs.shared.Segments.{Segment, piece_of}
use Rattle.ring_model.specs.shared.Frames.{Bytes, Follows, unfinished}
use Rattle.ring_model.specs.shared.Handshakes.{is_live}
use Rattle.shared_ring.specs.declared.events.DriverEvent.TheVariants as driver
use Rattle.shared_ring.specs.declared.events.ControllerEvent.TheVariants as controller
use Rattle.shared_ring.specs.Records.{undriven}
use Rattle.rx_ring.specs.declared.events.RxDriverOwn.TheVariants.{NotDone, Taken, ClearedQuiet}
use Rattle.rx_ring.specs.declared.events.RxControllerOwn.TheVariants.{WroteBack}
use Rattle.rx_ring.specs.declared.driver.Poll.{Poll}
use Rattle.rx_ring.specs.declared.driver.Poll.TheVariants as poll
use Rattle.rx_ring.specs.Records.{RxDriven, RxControlled, Knowing, unknown}
use Rattle.rx_ring.specs.Ends.{DriverSide, driver_size, driver_record, posted, taken, reclaimed, returned, driver_state, known_of, saw_quiet, is_drained, next_place, driver_grown, ControllerSide, controller_size, controller_record, stored, serve_place, controller_grown}
pub use Rattle.shared_ring.specs.Meeting.{IsTold}
use Rattle.rx_ring.specs.Meeting.{left_by}
pub use Rattle.shared_ring.specs.Calls.{IsFreshDriver, IsFreshController, NoneOut, FoundAhead as FoundFree, MayEnable, IsSettled, MayDisable, MayAnswer, AnsweredEnabling, AnsweredDisabling, Answered}
use Rattle.shared_ring.specs.Calls.{IsPoster, IsServer}
use Rattle.shared_ring.specs.declared.ends.DriverPlaces.{DriverPlaces}
use Rattle.shared_ring.specs.declared.ends.ControllerPlaces.{ControllerPlaces}

abbrev pub segment : Buffer → Bool → Segment Bytes
segment buf eop = record { number = buf.number; payload = buf.bytes; eop = eop }

-- The next descriptor was loaded and had no DD. If the queue was seen quiet before, nothing is left to take.
pub record SawNotDone (old new : DriverSide) : Type 0 where
  pub live : is_live (driver_state old) ≡ true
  pub some_out : length (taken old) < length (posted old)
  pub word : ℕ
  pub clear : word % 2 ≡ 0
  pub step : new ≡ driver_grown old (driver.Own (NotDone (next_place old) word))
  pub same : driver_record new ≡ driver_record old
  pub drained : saw_quiet old ≡ true → is_drained new ≡ true
  pub known : known_of new ≡ record (known_of old) { drained = is_drained old || saw_quiet old }

-- The next descriptor was loaded and had DD. The segment is in the next posted buffer in order, with the word's length
-- and EOP, and it follows the frame so far. There is room for one more posting. If the queue was seen quiet before and
-- this was the last posted buffer, nothing is left to take.
pub record TookSegment (old : DriverSide) (buf : Buffer) (eop : Bool) (new : DriverSide) : Type 0 where
  pub live : is_live (driver_state old) ≡ true
  pub some_out : length (taken old) < length (posted old)
  pub none_back : reclaimed old ≡ 0
  pub step : new ≡ driver_grown old (driver.Own (Taken (next_place old) (rx_word (length buf.bytes) eop) buf))
  pub number : slice_get (posted old) (length (taken old)) ≡ Some buf.number
  pub real : buf ≡ buffer buf.number buf.bytes
  pub follows : Follows piece_of (driver_size old) (unfinished piece_of (taken old)) buf.bytes eop
  pub grew : driver_record new ≡ record (driver_record old) { reaped = taken old ++ segment buf eop ∷ [] }
  pub room : length (posted new) + 1 < returned new + driver_size new
  pub known : known_of new ≡ record (known_of old) { drained = is_drained old || (saw_quiet old && (length (taken old) + 1 == length (posted old))) }

-- All posted buffers are taken. If the queue was seen quiet before, nothing is left to take.
pub record SawEmpty (old new : DriverSide) : Type 0 where
  pub live : is_live (driver_state old) ≡ true
  pub none_out : length (taken old) ≡ length (posted old)
  pub same : new ≡ old
  pub drained : saw_quiet old ≡ true → is_drained new ≡ true

pub record SawOff (old new : DriverSide) : Type 0 where
  pub off : is_live (driver_state old) ≡ false
  pub same : new ≡ old

abbrev pub Polled : DriverSide → Poll → DriverSide → Type 0
Polled old (poll.Segment buf eop) new = TookSegment old buf eop new
Polled old poll.NotDone new = SawNotDone old new
Polled old poll.Empty new = SawEmpty old new
Polled old poll.Off new = SawOff old new

-- What is known after a load of the quiet word: whether it was ever 1, and if so and all posted buffers are taken, that
-- nothing is left to take. Nothing else changes.
abbrev pub told_quiet : Bool → DriverSide → Knowing
told_quiet said d = record (known_of d) { quiet = saw_quiet d || said; drained = is_drained d || ((saw_quiet d || said) && (length (taken d) == length (posted d))) }

-- The number of segments left to take, if the head was loaded after the disabling was seen answered.
abbrev pub left_at : DriverSide → Option ℕ → Option ℕ
left_at d None = None
left_at d (Some head) = Some (left_by d head)

abbrev pub told_left : DriverSide → Option ℕ
told_left d = left_at d (known_of d).head

pub record FoundLeft (old : DriverSide) (left : ℕ) (new : DriverSide) : Type 0 where
  pub head : ℕ
  pub step : new ≡ driver_grown old (driver.LoadedHead head)
  pub same : driver_record new ≡ driver_record old
  pub known : known_of new ≡ record (known_of old) { head = Some head }
  pub told : told_left new ≡ Some left

-- The oldest buffer that was out came back.
pub record CameHome (old : DriverSide) (buf : Buffer) (new : DriverSide) : Type 0 where
  pub step : new ≡ driver_grown old (driver.Reclaimed (next_place old) buf)
  pub number : slice_get (posted old) (returned old) ≡ Some buf.number
  pub real : buf ≡ buffer buf.number buf.bytes
  pub same : driver_record new ≡ record (driver_record old) { reclaimed = reclaimed old + 1 }
  pub known : known_of new ≡ known_of old

abbrev pub Reclaimed : DriverSide → Option Buffer → DriverSide → Type 0
Reclaimed old None new = NoneOut old new
Reclaimed old (Some buf) new = CameHome old buf new

-- Head, tail and quiet word are cleared. A new epoch begins with an empty record and nothing learned.
pub record GoneOver (old new : DriverSide) : Type 0 where
  pub step : new ≡ driver_grown (driver_grown (driver_grown old driver.ClearedHead) driver.ClearedTail) (driver.Own ClearedQuiet)
  pub fresh : driver_record new ≡ undriven
  pub unlearnt : known_of new ≡ unknown

-- The fields of a driver's end agree with its record and with what it has learned.
pub record IsEndOf (n : ℕ) (x : RxDriven) (k : Knowing) (at : DriverPlaces) : Type 0 where
  pub poster : IsPoster n x at
  pub open poster use *
  pub sure : k.quiet ≡ true → length x.reaped ≡ length x.posted → k.drained ≡ true

abbrev pub IsDriverEnd : DriverSide → DriverPlaces → Type 0
IsDriverEnd d at = IsEndOf (driver_size d) (driver_record d) (known_of d) at

-- A4: the next descriptor was loaded as 0, and this empty buffer came out of its slot.
pub record Fetched (old : ControllerSide) (buf : Buffer) (new : ControllerSide) : Type 0 where
  pub step : new ≡ controller_grown old (controller.Fetched (serve_place old) 0 buf)
  pub empty : buf ≡ buffer buf.number []
  pub same : controller_record new ≡ record (controller_record old) { held = Some buf }

-- A4 and A5: the next descriptor was fetched as 0, and its buffer written back with the segment's bytes.
pub record StoredSegment (old : ControllerSide) (s : Segment Bytes) (new : ControllerSide) : Type 0 where
  pub step : new ≡ controller_grown (controller_grown old (controller.Fetched (serve_place old) 0 (buffer s.number [])))
      (controller.Own (WroteBack (serve_place old) (rx_word (length s.payload) s.eop) (buffer s.number s.payload)))
  pub grew : controller_record new ≡ record (controller_record old) { completed = stored old ++ s ∷ []; held = None }

-- A segment with these bytes was stored.
pub record StoredBytes (old : ControllerSide) (bytes : Bytes) (eop : Bool) (new : ControllerSide) : Type 0 where
  pub number : ℕ
  pub stored_as : StoredSegment old (record { number = number; payload = bytes; eop = eop }) new

-- The fields of a controller's end agree with its record.
pub record IsServerOf (n : ℕ) (x : RxControlled) (at : ControllerPlaces) (head : ℕ) (finished : Bool) : Type 0 where
  pub server : IsServer piece_of n x at
  pub open server use *
  pub head_is : head ≡ x.head
  pub quiet_is : finished ≡ x.barred

abbrev pub IsControllerEnd : ControllerSide → ControllerPlaces → ℕ → Bool → Type 0
IsControllerEnd c at head finished = IsServerOf (controller_size c) (controller_record c) at head finished
