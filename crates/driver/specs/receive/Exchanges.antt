-- The steps of a batch in their order: polls and postings, and then the store of the tail.
use Rattle.std.specs.Prelude.{◌≡◌, ℕ, ◌+◌, ◌-◌, ◌<◌, ◌⊎◌, Bool, true, false, List, [], ◌∷◌, ◌++◌, length}
use Rattle.buffer_pool.specs.Buffer.{buffer}
use Rattle.ring_model.specs.shared.Segments.{Segment}
use Rattle.ring_model.specs.shared.Frames.{Bytes}
use Rattle.ring_model.specs.shared.Handshakes.{is_open}
use Rattle.shared_ring.specs.declared.events.DriverEvent.TheVariants as driver
use Rattle.rx_ring.specs.Ends.{DriverSide, driver_size, driver_state, posted, published, taken, returned, fill_place, driver_grown}
use Rattle.rx_ring.specs.Calls.{TookSegment, SawNotDone, SawEmpty}

-- The end after buffers with these numbers were posted one after another, each empty and at the next place.
abbrev pub posting : List ℕ → DriverSide → DriverSide
posting [] d = d
posting (number ∷ numbers) d = posting numbers (driver_grown d (driver.Posted (fill_place d) 0 (buffer number [])))

-- The buffer posted in place of a taken one: the next of the stash, if any; none if a disabling was asked.
abbrev pub in_place : Bool → List ℕ → List ℕ
in_place true (number ∷ stash) = number ∷ []
in_place may stash = []

-- A poll took this segment, and then a buffer was posted in its place.
pub record Exchanged (s : Segment Bytes) (old : DriverSide) (had : List ℕ) (new : DriverSide) (has : List ℕ) : Type 0 where
  pub emptied : DriverSide
  pub took : TookSegment old (buffer s.number s.payload) s.eop emptied
  pub step : new ≡ posting (in_place (is_open (driver_state old)) had) emptied
  pub stash : had ≡ in_place (is_open (driver_state old)) had ++ has

-- A poll found nothing to take.
abbrev pub FoundNothing : DriverSide → DriverSide → Type 0
FoundNothing old new = SawNotDone old new ⊎ SawEmpty old new

-- The number of packets that may still be added after a segment.
abbrev pub left_after : Bool → ℕ → ℕ
left_after true most = most - 1
left_after false most = most

-- Polling, where at most `most` packets may be added. Each poll but the last took a segment and exchanged it for a
-- buffer. No poll follows once all the packets are added, or after one that found nothing.
abbrev pub Polls : ℕ → List (Segment Bytes) → DriverSide → List ℕ → DriverSide → List ℕ → Type 0
Polls most [] old had new has = (((most ≡ 0) × (new ≡ old)) ⊎ ((0 < most) × FoundNothing old new)) × (has ≡ had)
Polls most (s ∷ segments) old had new has = (d : DriverSide) × (stash : List ℕ) × ((0 < most) × Exchanged s old had d stash × Polls (left_after s.eop most) segments d stash new has)

-- What polling took, from its first poll to its last.
pub record PolledAll (most : ℕ) (old : DriverSide) (had : List ℕ) (new : DriverSide) (has : List ℕ) : Type 0 where
  pub segments : List (Segment Bytes)
  pub took : taken new ≡ taken old ++ segments
  pub polls : Polls most segments old had new has

-- Nothing is left to post, or no more can be posted.
abbrev pub IsFilled : DriverSide → List ℕ → Type 0
IsFilled end stash = (stash ≡ []) ⊎ (length (posted end) + 1 ≡ returned end + driver_size end)

-- If more is posted than before, the tail was stored, so that all is published. Otherwise nothing was done.
abbrev pub Published : DriverSide → DriverSide → DriverSide → Type 0
Published before filled new = ((posted filled ≡ posted before) × (new ≡ filled) × (published new ≡ published before))
    ⊎ ((length (posted before) < length (posted filled)) × (new ≡ driver_grown filled (driver.Published (fill_place filled))) × (published new ≡ length (posted new)))

-- All steps of a batch that took these segments, where at most `most` packets may be added: polling, with an exchange
-- for each segment; then postings while the stash has a buffer and the ring has room, none if a disabling was asked;
-- then one store of the tail, if anything was posted.
pub record Exchanges (most : ℕ) (segments : List (Segment Bytes)) (old : DriverSide) (had : List ℕ) (new : DriverSide) (has : List ℕ) : Type 0 where
  pub polled : DriverSide
  pub rest : List ℕ
  pub polls : Polls most segments old had polled rest
  pub filled : DriverSide
  pub more : List ℕ
  pub fills : filled ≡ posting more polled
  pub stash : rest ≡ more ++ has
  pub full : is_open (driver_state old) ≡ true → IsFilled filled has
  pub shut : is_open (driver_state old) ≡ false → more ≡ []
  pub tail : Published old filled new
