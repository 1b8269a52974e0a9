-- The effects of both ends' calls whose result depends on a loaded value, and the invariants of an end's fields. They
-- are the same for both ways to report.
use Rattle.std.specs.Prelude.{◌≡◌, ℕ, ◌+◌, ◌-◌, ◌%◌, ◌<◌, ◌≤◌, ◌⊎◌, Bool, true, false, List, [], ◌∷◌, ◌++◌, length, Option, Some, None, slice_get}
use Rattle.buffer_pool.specs.Buffer.{Buffer, buffer}
use Rattle.descriptor.specs.declared.tx_read.TxRead.{TxRead}
use Rattle.ring_model.specs.declared.states.Completion.{Completion}
use Rattle.ring_model.specs.declared.states.Completion.TheVariants.{Status, Head}
use Rattle.ring_model.specs.shared.Frames.{unfinished}
use Rattle.ring_model.specs.shared.Handshakes.{is_live, is_serving}
use Rattle.ring_model.specs.transmit.Agreement.{done_word, tx_word}
use Rattle.ring_model.specs.transmit.Frames.{MayFollow}
use Rattle.ring_model.specs.transmit.Ring.{are_whole, carried, new_posting}
use Rattle.ring_model.specs.transmit.Steps.{asks_report}
use Rattle.shared_ring.specs.declared.events.DriverEvent.TheVariants as driver
use Rattle.shared_ring.specs.declared.events.ControllerEvent.TheVariants as controller
use Rattle.tx_ring.specs.declared.events.TxControllerOwn.{TxControllerOwn}
use Rattle.tx_ring.specs.declared.events.TxControllerOwn.TheVariants.{Sent, Reported}
use Rattle.tx_ring.specs.Form.{IsFetchedAs}
use Rattle.tx_ring.specs.Meeting.{told_left}
use Rattle.tx_ring.specs.Rule.{filled}
use Rattle.tx_ring.specs.Steps.{Looked}
use Rattle.tx_ring.specs.declared.events.TxDriverOwn.TheVariants.{Cleaned, EndedEpoch, ClearedReport}
use Rattle.shared_ring.specs.Records.{undriven}
use Rattle.shared_ring.specs.Registers.{report_index}
use Rattle.descriptor.specs.Transmit.{eop_of, rs_of, paylen_of}
use Rattle.tx_ring.specs.Records.{Posting, TxDriven, TxControlled, Knowing, unknown, posting_of}
use Rattle.tx_ring.specs.Ends.{DriverSide, driver_size, driver_record, posted, cleaned, reclaimed, returned, seen_reported, outstanding, driver_state, known_of, next_place, driver_grown, ControllerSide, controller_size, controller_record, sent, known_ready, held_word, seen, serve_place, controller_grown}
pub use Rattle.shared_ring.specs.Calls.{IsFreshDriver, IsFreshController, NoneOut, FoundAhead as FoundReady, MayEnable, IsSettled, MayDisable, MayAnswer, AnsweredEnabling, AnsweredDisabling, Answered}
use Rattle.shared_ring.specs.Calls.{IsPoster, IsServer}
use Rattle.shared_ring.specs.declared.ends.DriverPlaces.{DriverPlaces}
use Rattle.shared_ring.specs.declared.ends.ControllerPlaces.{ControllerPlaces}

-- B4: the next descriptor was loaded, and its buffer came out with the posted bytes. The returned descriptor is that of
-- the loaded word. It may follow the frame so far, and if it does not end its frame, more is known to be ready.
pub record Fetched (old : ControllerSide) (buf : Buffer) (read : TxRead) (new : ControllerSide) : Type 0 where
  pub word : ℕ
  pub step : new ≡ controller_grown old (controller.Fetched (serve_place old) word buf)
  pub word_is : word ≡ tx_word (length buf.bytes) read.eop read.rs read.paylen
  pub eop : read.eop ≡ eop_of word
  pub rs : read.rs ≡ rs_of word
  pub paylen : read.paylen ≡ paylen_of word
  pub number : read.number ≡ buf.number
  pub len : read.len ≡ length buf.bytes
  pub real : buf ≡ buffer buf.number buf.bytes
  pub follows : MayFollow (controller_size old) (unfinished carried (sent old)) (posting_of word buf)
  pub ready : read.eop ≡ false → 1 < known_ready old
  pub same : controller_record new ≡ record (controller_record old) { held = Some buf }
  pub held_is : held_word new ≡ word

-- The sink may take whatever is fetched next.
pub record CanTake {S : Type 0} (may : S → ℕ → Buffer → Type 0) (end : ControllerSide) (sink : S) : Type 0 where
  pub takes : (word : ℕ) (buf : Buffer) → IsFetchedAs (controller_size end) (controller_record end) word buf → may sink word buf

-- B4 and B5: the next descriptor was fetched, the sink took its buffer, and its posting was sent.
pub record SentTo {S : Type 0} (took : S → ℕ → Buffer → S → Type 0) (old : ControllerSide) (sink : S) (ends : Bool) (new : ControllerSide) (sink' : S) : Type 0 where
  pub word : ℕ
  pub buf : Buffer
  pub fetched : IsFetchedAs (controller_size old) (controller_record old) word buf
  pub taken : took sink word buf sink'
  pub ends_is : ends ≡ eop_of word
  pub step : new ≡ controller_grown (controller_grown old (controller.Fetched (serve_place old) word buf)) (controller.Own (Sent ((length (sent old) + 1) % controller_size old) word buf))
  pub grew : controller_record new ≡ record (controller_record old) { completed = sent old ++ posting_of word buf ∷ []; held = None; head = (length (sent old) + 1) % controller_size old; barred = rs_of word }

-- B6, for the item that was sent last.
abbrev pub report_of : ℕ → Completion → ℕ → TxControllerOwn
report_of n Status count = Reported ((count - 1) % n) done_word
report_of n Head count = Reported (report_index n) (count % n)

-- The fields of a controller's end agree with its record and with the word that it last fetched.
pub record IsServerOf (n : ℕ) (x : TxControlled) (word : ℕ) (at : ControllerPlaces) (last : ℕ) (ends asks owing : Bool) : Type 0 where
  pub server : IsServer carried n x at
  pub open server use *
  pub head_is : is_serving x.state ≡ true → x.head ≡ length x.completed % n
  pub ends_is : at.holding ≡ true → ends ≡ eop_of word
  pub asks_is : at.holding ≡ true → asks ≡ rs_of word
  pub owing_is : owing ≡ x.barred
  pub owing_serving : owing ≡ true → is_serving x.state ≡ true
  pub last_is : owing ≡ true → last ≡ (length x.completed - 1) % n

abbrev pub IsControllerEnd : ControllerSide → ControllerPlaces → ℕ → Bool → Bool → Bool → Type 0
IsControllerEnd c at last ends asks owing = IsServerOf (controller_size c) (controller_record c) (held_word c) at last ends asks owing

-- The posting made with a buffer.
abbrev pub item_of : Buffer → Bool → Bool → ℕ → Posting
item_of buf eop rs paylen = new_posting buf.number buf.bytes eop rs paylen

-- The oldest outstanding report, if any, is this many places after the items seen reported.
abbrev pub OldestAhead : DriverSide → Option ℕ → Type 0
OldestAhead d None = outstanding d ≡ None
OldestAhead d (Some ahead) = outstanding d ≡ Some (seen_reported d + ahead)

-- B7: the oldest outstanding report is made, and so are all before it.
pub record SawReported (old new : DriverSide) : Type 0 where
  pub live : is_live (driver_state old) ≡ true
  pub looked : Looked old new true
  pub same : driver_record new ≡ driver_record old
  pub known : known_of new ≡ record (known_of old) { seen = looked.item + 1 }
  pub seen : seen_reported new ≡ looked.item + 1

-- B7: the oldest outstanding report is not made yet.
pub record SawUnreported (old new : DriverSide) : Type 0 where
  pub live : is_live (driver_state old) ≡ true
  pub looked : Looked old new false
  pub same : driver_record new ≡ driver_record old
  pub known : known_of new ≡ known_of old

-- No report is outstanding, or the queue is not live.
pub record NoneOutstanding (old new : DriverSide) : Type 0 where
  pub none : is_live (driver_state old) ≡ true → outstanding old ≡ None
  pub same : new ≡ old

abbrev pub Polled : DriverSide → Bool → DriverSide → Type 0
Polled old true new = SawReported old new
Polled old false new = SawUnreported old new ⊎ NoneOutstanding old new

-- B8: the oldest buffer that was not cleaned came back, as it was posted.
pub record CleanedOne (old : DriverSide) (buf : Buffer) (new : DriverSide) : Type 0 where
  pub item : Posting
  pub step : new ≡ driver_grown old (driver.Own (Cleaned (next_place old) buf))
  pub there : slice_get (posted old) (length (cleaned old)) ≡ Some item
  pub is : buf ≡ filled item
  pub same : driver_record new ≡ record (driver_record old) { reaped = cleaned old ++ buf.number ∷ [] }
  pub known : known_of new ≡ known_of old

-- The head was loaded, and shows how many of the postings were not sent.
pub record FoundLeft (old : DriverSide) (left : ℕ) (new : DriverSide) : Type 0 where
  pub head : ℕ
  pub step : new ≡ driver_grown old (driver.LoadedHead head)
  pub same : driver_record new ≡ driver_record old
  pub known : known_of new ≡ record (known_of old) { head = Some head }
  pub told : told_left new ≡ Some left

-- The oldest buffer that was out came back, as it was posted.
pub record CameHome (old : DriverSide) (buf : Buffer) (new : DriverSide) : Type 0 where
  pub item : Posting
  pub step : new ≡ driver_grown old (driver.Reclaimed (next_place old) buf)
  pub there : slice_get (posted old) (returned old) ≡ Some item
  pub is : buf ≡ filled item
  pub same : driver_record new ≡ record (driver_record old) { reclaimed = reclaimed old + 1 }
  pub known : known_of new ≡ known_of old

abbrev pub Reclaimed : DriverSide → Option Buffer → DriverSide → Type 0
Reclaimed old None new = NoneOut old new
Reclaimed old (Some buf) new = CameHome old buf new

-- Head and tail are cleared, and the head word of reports if there is one.
abbrev pub gone_over : Completion → DriverSide → DriverSide
gone_over Status d = driver_grown (driver_grown d driver.ClearedHead) (driver.Own EndedEpoch)
gone_over Head d = driver_grown (driver_grown (driver_grown d driver.ClearedHead) driver.ClearedTail) (driver.Own ClearedReport)

-- A new epoch begins with an empty record and nothing learned.
pub record GoneOver (old new : DriverSide) : Type 0 where
  pub step : new ≡ gone_over old.completion old
  pub fresh : driver_record new ≡ undriven
  pub unlearnt : known_of new ≡ unknown

-- The entry at the place of each item not seen reported says whether it asked for a report.
abbrev pub AskedAt : ℕ → List Posting → ℕ → List Bool → Type 0
AskedAt n posted seen asks = (j : ℕ) → seen ≤ j → j < length posted → slice_get asks (j % n) ≡ Some (asks_report (slice_get posted j))

-- The oldest `passed` items that are not seen reported asked for no report.
pub record HasPassed (posted : List Posting) (seen passed : ℕ) : Type 0 where
  pub there : seen + passed ≤ length posted
  pub none : (j : ℕ) → seen ≤ j → j < seen + passed → asks_report (slice_get posted j) ≡ false

-- The fields of a driver's end agree with its record and with what it has learned.
pub record IsEndOf (n : ℕ) (x : TxDriven) (k : Knowing) (at : DriverPlaces) (seen done unseen : ℕ) (whole : Bool) (asks : List Bool) (passed : ℕ) : Type 0 where
  pub poster : IsPoster n x at
  pub open poster use *
  pub seen_is : seen ≡ k.seen % n
  pub done_is : done + length x.reaped ≡ k.seen
  pub unseen_is : unseen + k.seen ≡ length x.posted
  pub few : length x.posted < length x.reaped + n
  pub whole_is : whole ≡ are_whole x.posted
  pub asks_count : length asks ≡ n
  pub asks_are : AskedAt n x.posted k.seen asks
  pub passed_by : HasPassed x.posted k.seen passed

abbrev pub IsDriverEnd : DriverSide → DriverPlaces → ℕ → ℕ → ℕ → Bool → List Bool → ℕ → Type 0
IsDriverEnd d at seen done unseen whole asks passed = IsEndOf (driver_size d) (driver_record d) (known_of d) at seen done unseen whole asks passed
