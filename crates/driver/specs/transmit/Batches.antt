-- The effects of cleaning and of the batches of a transmit driver.
use Rattle.std.specs.Prelude.{◌≡◌, ℕ, zero, suc, ◌+◌, ◌%◌, ◌<◌, ◌≤◌, ◌⊎◌, true, false, List, [], ◌++◌, length, take, drop}
use Rattle.buffer_pool.specs.Buffer.{Buffer}
use Rattle.buffer_pool.specs.declared.stash.TheConstants.{STASH_BUFFERS}
use Rattle.ring_model.specs.shared.Handshakes.{is_on}
use Rattle.ring_model.specs.transmit.Ring.{number_of_posting}
use Rattle.shared_ring.specs.declared.events.DriverEvent.TheVariants.{Published}
use Rattle.tx_ring.specs.Calls.{Polled}
use Rattle.tx_ring.specs.Ends.{DriverSide, posted, published, cleaned, reclaimed, seen_reported, driver_state, known_of, fill_place, driver_grown}
use Rattle.driver.specs.Reclaiming.{out_of}
use Rattle.driver.specs.transmit.Cleaning.{CleanedBy, Cleans}
use Rattle.driver.specs.transmit.Frames.{frames_of, numbers_in, NeedsMore}
use Rattle.driver.specs.transmit.Going.{WentOn, PostedAll, is_cleaning}
use Rattle.driver.specs.transmit.Transmitter.{room_of, Sending}

-- Buffers were cleaned and went into the stash in order. The only steps are cleaning and looking for reports.
abbrev pub CleanedInto : DriverSide → List ℕ → DriverSide → List ℕ → Type 0
CleanedInto = CleanedBy is_cleaning

-- Everything seen reported was cleaned, and then a load showed no report, or none was outstanding.
pub record FoundNoMore (old new : DriverSide) : Type 0 where
  pub last : DriverSide
  pub numbers : List ℕ
  pub went : WentOn is_cleaning old [] numbers last
  pub all : length (cleaned last) ≡ seen_reported last
  pub none : Polled last false new

-- A cleaning: its steps, and its result. It ends with a full stash, or when nothing more can be cleaned. The state is
-- unchanged, nothing was reclaimed, and no seen report is forgotten.
pub record CleanedAll (old : DriverSide) (had : List ℕ) (new : DriverSide) (has : List ℕ) : Type 0 where
  pub into : CleanedInto old had new has
  pub open into use *
  pub steps : Cleans old had new has
  pub ends : (length has ≡ STASH_BUFFERS) ⊎ FoundNoMore old new
  pub state : driver_state new ≡ driver_state old
  pub none_back : reclaimed new ≡ reclaimed old
  pub seen : seen_reported old ≤ seen_reported new

-- If anything was posted, it is published, once.
abbrev pub published_after : ℕ → DriverSide → DriverSide
published_after zero d = d
published_after (suc k) d = driver_grown d (Published (fill_place d))

-- `count` packets left the front of the list and were posted and published, none if a disabling was asked. The next one
-- stays for lack of room.
pub record PostedFront (every frames count : ℕ) (old : DriverSide) (had : List (List Buffer)) (new : DriverSide) (has : List (List Buffer)) : Type 0 where
  pub filled : DriverSide
  pub posting : PostedAll old (frames_of every frames (take count had)) filled
  pub out : out_of number_of_posting new ≡ out_of number_of_posting old ++ numbers_in (take count had)
  pub known : known_of new ≡ known_of old
  pub publishing : new ≡ published_after count filled
  pub shown : 0 < count → published new ≡ length (posted new)
  pub few : count ≤ length had
  pub left : has ≡ drop count had
  pub none : is_on (driver_state old) ≡ false → count ≡ 0
  pub stays : is_on (driver_state old) ≡ true → NeedsMore (room_of new) has

-- First the reported buffers were cleaned, and then packets were posted, none if a disabling was asked. Of the buffers
-- that were out, followed by those posted, the first were cleaned and the others are out. The state is unchanged,
-- nothing was reclaimed, and posting changes nothing that is known of the controller.
pub record Batched (count : ℕ) (old new : Sending) : Type 0 where
  pub between : DriverSide
  pub cleaning : CleanedAll old.driver.end old.stash between new.stash
  pub posting : PostedFront old.driver.every old.driver.frames count between old.packets new.driver.end new.packets
  pub posts : posted new.driver.end ≡ posted old.driver.end ++ frames_of old.driver.every old.driver.frames (take count old.packets)
  pub cleans : cleaned new.driver.end ≡ cleaned old.driver.end ++ cleaning.numbers
  pub out : out_of number_of_posting old.driver.end ++ numbers_in (take count old.packets) ≡ cleaning.numbers ++ out_of number_of_posting new.driver.end
  pub state : driver_state new.driver.end ≡ driver_state old.driver.end
  pub none_back : reclaimed new.driver.end ≡ reclaimed old.driver.end
  pub known : known_of new.driver.end ≡ known_of between
  pub asked : is_on (driver_state old.driver.end) ≡ false → count ≡ 0
  pub stays : is_on (driver_state old.driver.end) ≡ true → NeedsMore (room_of new.driver.end) new.packets
  pub counted : new.driver ≡ record old.driver { end = new.driver.end; frames = (old.driver.frames + count) % old.driver.every }

-- The first packet is too long for the ring. The reported buffers were cleaned, and nothing was posted.
pub record OnlyCleaned (old new : Sending) : Type 0 where
  pub cleaning : CleanedAll old.driver.end old.stash new.driver.end new.stash
  pub driver : new.driver ≡ record old.driver { end = new.driver.end }
  pub packets : new.packets ≡ old.packets
