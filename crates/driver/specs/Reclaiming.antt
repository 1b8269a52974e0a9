-- Reclaiming the buffers of a disabled queue, in either direction.
use Rattle.std.specs.Prelude.{◌≡◌, ℕ, ◌+◌, List, [], ◌∷◌, ◌++◌, length, map, drop, reverse, Option, Some, None, slice_get}
use Rattle.buffer_pool.specs.Buffer.{Buffer, buffer}
use Rattle.shared_ring.specs.declared.events.DriverEvent.TheVariants as driver
use Rattle.shared_ring.specs.Calls.{NoneOut}
use Rattle.shared_ring.specs.Ends.{DriverSide, driver_record, posted, reclaimed, returned, known_of, next_place, driver_grown}
use Rattle.shared_ring.specs.Forms.{Form}
use Rattle.driver.specs.Steps.{Runs, is_reclaim}

module _ {Ring Posted Completed Reaped D C : Type 0} {form : Form Ring Posted Completed Reaped D C} where
  -- The numbers of the buffers that are out, oldest first. `number` is that of a posting.
  abbrev pub out_of : (Posted → ℕ) → DriverSide form → List ℕ
  out_of number d = map number (drop (returned d) (posted d))

  -- The end after these buffers were reclaimed one after another, each from the oldest place that is out.
  abbrev pub with_reclaimed : List Buffer → DriverSide form → DriverSide form
  with_reclaimed [] d = d
  with_reclaimed (b ∷ bs) d = with_reclaimed bs (driver_grown d (driver.Reclaimed (next_place d) b))

  -- This buffer is that of the posting which is `k` places after the oldest that is out.
  pub record WasOut (d : DriverSide form) (k : ℕ) (buf : Buffer) : Type 0 where
    pub item : Posted
    pub there : slice_get (posted d) (returned d + k) ≡ Some item
    pub is_of : form.IsOf item buf

  -- Exactly the oldest buffers that were out were reclaimed one after another and put into the stash.
  pub record CameBack (number : Posted → ℕ) (old : DriverSide form) (had : List ℕ) (new : DriverSide form) (has : List ℕ) : Type 0 where
    pub bufs : List Buffer
    pub steps : new ≡ with_reclaimed bufs old
    pub oldest : (k : ℕ) (b : Buffer) → slice_get bufs k ≡ Some b → WasOut old k b
    pub numbers : List ℕ
    pub numbers_are : numbers ≡ map (λ b. b.number) bufs
    pub runs : Runs is_reclaim old new
    pub did : driver_record new ≡ record (driver_record old) { reclaimed = reclaimed old + length numbers }
    pub out : out_of number old ≡ numbers ++ out_of number new
    pub stash : has ≡ reverse numbers ++ had

  -- The buffer of the oldest posting that was out came back.
  pub record CameHome (old : DriverSide form) (buf : Buffer) (new : DriverSide form) : Type 0 where
    pub item : Posted
    pub step : new ≡ driver_grown old (driver.Reclaimed (next_place old) buf)
    pub there : slice_get (posted old) (returned old) ≡ Some item
    pub is_of : form.IsOf item buf
    pub real : buf ≡ buffer buf.number buf.bytes
    pub same : driver_record new ≡ record (driver_record old) { reclaimed = reclaimed old + 1 }
    pub known : known_of new ≡ known_of old

  abbrev pub ReclaimedNext : DriverSide form → Option Buffer → DriverSide form → Type 0
  ReclaimedNext old None new = NoneOut old new
  ReclaimedNext old (Some buf) new = CameHome old buf new
