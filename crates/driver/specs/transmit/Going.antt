-- The progress of a transmit driver's end: its steps, and the growth of its lists.
use Rattle.std.specs.Prelude.{◌≡◌, ℕ, Bool, true, false, List, [], ◌∷◌, ◌++◌}
use Rattle.shared_ring.specs.declared.events.DriverEvent.TheVariants.{Posted, Own}
use Rattle.tx_ring.specs.declared.events.TxDriverOwn.TheVariants.{NoReport, SawReport, Cleaned}
use Rattle.tx_ring.specs.Ends.{DriverSide, driver_record, posted, cleaned, known_of, fill_place, next_place, driver_grown}
use Rattle.tx_ring.specs.Records.{DriverStep, Posting}
use Rattle.tx_ring.specs.Rule.{filled, word_of}
use Rattle.driver.specs.Steps.{Runs, is_post}

-- B7 and B8.
abbrev pub is_cleaning : DriverStep → Bool
is_cleaning (Own (NoReport place word)) = true
is_cleaning (Own (SawReport place word)) = true
is_cleaning (Own (Cleaned place buf)) = true
is_cleaning _ = false

-- B8 alone.
abbrev pub is_clean : DriverStep → Bool
is_clean (Own (Cleaned place buf)) = true
is_clean _ = false

-- By steps of these kinds, the given postings were posted and the buffers with these numbers were cleaned. Nothing else
-- in the record changed, and neither did the known head.
pub record WentOn (kinds : DriverStep → Bool) (old : DriverSide) (postings : List Posting) (numbers : List ℕ) (new : DriverSide) : Type 0 where
  pub runs : Runs kinds old new
  pub did : driver_record new ≡ record (driver_record old) { posted = posted old ++ postings; reaped = cleaned old ++ numbers }
  pub head : (known_of new).head ≡ (known_of old).head

-- The end after these postings were made one after another. Each stores its descriptor at the next place, and its buffer
-- goes into the slot.
abbrev pub with_posted : List Posting → DriverSide → DriverSide
with_posted [] d = d
with_posted (p ∷ ps) d = with_posted ps (driver_grown d (Posted (fill_place d) (word_of p) (filled p)))

-- The end after these postings were cleaned one after another. Each clears the descriptor at the oldest place that is
-- out, and its buffer comes out of the slot as it was posted.
abbrev pub with_cleaned : List Posting → DriverSide → DriverSide
with_cleaned [] d = d
with_cleaned (p ∷ ps) d = with_cleaned ps (driver_grown d (Own (Cleaned (next_place d) (filled p))))

-- Exactly these postings were made.
pub record PostedAll (old : DriverSide) (postings : List Posting) (new : DriverSide) : Type 0 where
  pub steps : new ≡ with_posted postings old
  pub went : WentOn is_post old postings [] new
  pub open went use *
