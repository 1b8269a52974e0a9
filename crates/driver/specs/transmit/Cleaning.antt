-- Cleaning: its run of steps, and the buffers that come back.
use Rattle.std.specs.Prelude.{◌≡◌, ℕ, ◌<◌, ◌⊎◌, Bool, false, List, [], ◌++◌, length, drop, reverse}
use Rattle.buffer_pool.specs.declared.stash.TheConstants.{STASH_BUFFERS}
use Rattle.ring_model.specs.transmit.Ring.{number_of_posting}
use Rattle.tx_ring.specs.Calls.{SawReported, Polled}
use Rattle.tx_ring.specs.Ends.{DriverSide, posted, cleaned, returned, seen_reported, known_of}
use Rattle.tx_ring.specs.Records.{DriverStep, Posting}
use Rattle.driver.specs.Reclaiming.{out_of}
use Rattle.driver.specs.transmit.Going.{WentOn, is_clean, with_cleaned}

-- By steps of these kinds, the oldest buffers that were out were cleaned and went into the stash in order.
pub record CleanedBy (kinds : DriverStep → Bool) (old : DriverSide) (had : List ℕ) (new : DriverSide) (has : List ℕ) : Type 0 where
  pub numbers : List ℕ
  pub went : WentOn kinds old [] numbers new
  pub out : out_of number_of_posting old ≡ numbers ++ out_of number_of_posting new
  pub stashed : has ≡ reverse numbers ++ had

-- Exactly the oldest postings that were out were cleaned, down to those that are out now.
pub record CleanedOff (old new : DriverSide) : Type 0 where
  pub items : List Posting
  pub oldest : drop (returned old) (posted old) ≡ items ++ drop (returned new) (posted new)
  pub steps : new ≡ with_cleaned items old

-- The items seen reported were cleaned: all of them, or as many as the stash had room for.
pub record CleanedUp (old : DriverSide) (had : List ℕ) (new : DriverSide) (has : List ℕ) : Type 0 where
  pub off : CleanedOff old new
  pub into : CleanedBy is_clean old had new has
  pub known : known_of new ≡ known_of old
  pub all : (length has ≡ STASH_BUFFERS) ⊎ (length (cleaned new) ≡ seen_reported new)

-- The steps of a cleaning. First the items seen reported are cleaned. If that fills the stash, there is no load.
-- Otherwise the oldest outstanding report is looked for. If there is none, or the load does not show it, the cleaning
-- ends. If the load shows it, the cleaning continues in the same way.
pub data Cleans : DriverSide → List ℕ → DriverSide → List ℕ → Type 0 where
  FilledUp : {old new : DriverSide} {had has : List ℕ} → CleanedUp old had new has → length has ≡ STASH_BUFFERS → Cleans old had new has
  FoundNone : {old up new : DriverSide} {had has : List ℕ} → CleanedUp old had up has → length has < STASH_BUFFERS → Polled up false new → Cleans old had new has
  FoundOne : {old up shown new : DriverSide} {had held has : List ℕ} → CleanedUp old had up held → length held < STASH_BUFFERS → SawReported up shown → Cleans shown held new has → Cleans old had new has
