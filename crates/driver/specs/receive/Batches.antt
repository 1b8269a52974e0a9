-- The segments that a receive batch takes, and the buffers that it posts.
use Rattle.std.specs.Prelude.{◌≡◌, ℕ, ◌+◌, ◌-◌, ◌≤◌, ◌⊎◌, Bool, true, false, All, List, [], ◌++◌, length, map, min}
use Rattle.buffer_pool.specs.Buffer.{Buffer}
use Rattle.buffer_pool.specs.Packed.{bytes_of}
use Rattle.ring_model.specs.shared.Segments.{Segment, piece_of}
use Rattle.ring_model.specs.shared.Frames.{Bytes, frames}
use Rattle.ring_model.specs.shared.Handshakes.{is_open}
use Rattle.shared_ring.specs.declared.events.DriverEvent.TheVariants as driver
use Rattle.rx_ring.specs.declared.events.RxDriverOwn.TheVariants.{NotDone, Taken}
use Rattle.rx_ring.specs.Records.{DriverStep}
use Rattle.rx_ring.specs.Ends.{DriverSide, driver_size, driver_record, driver_state, posted, published, taken, reclaimed, known_of, saw_quiet, is_drained}
use Rattle.rx_ring.specs.Calls.{SawNotDone, SawEmpty}
use Rattle.driver.specs.Steps.{Runs, is_post}
use Rattle.driver.specs.Reclaiming.{out_of}
use Rattle.driver.specs.receive.Chains.{going_on, segments_in, IsTaken, IsRest}
use Rattle.driver.specs.receive.Exchanges.{posting, Exchanges}
pub use Rattle.driver.specs.receive.Exchanges.{IsFilled, Published}

-- A driver's end, the chain of an unfinished frame, the stash, and the list of packets.
pub record Hands : Type 0 where
  pub end : DriverSide
  pub chain : List Buffer
  pub stash : List ℕ
  pub list : List (List Buffer)

abbrev pub at : DriverSide → List Buffer → List ℕ → List (List Buffer) → Hands
at end chain stash list = record { end = end; chain = chain; stash = stash; list = list }

abbrev pub itself : ℕ → ℕ
itself number = number

-- The numbers of the buffers that hold these segments.
abbrev pub numbers_in : List (Segment Bytes) → List ℕ
numbers_in segments = map (λ s. s.number) segments

-- The growth of the lists between two states. The segments taken, after the old chain, are those of the appended
-- packets and of the new chain. Buffers with these numbers went from the stash to the ring, none if a disabling was
-- asked. The buffers that were out, followed by those posted, are those of the taken segments, followed by those that
-- are out now.
pub record GrewBy (old new : Hands) : Type 0 where
  pub own : new.end.table ≡ old.end.table
  pub segments : List (Segment Bytes)
  pub numbers : List ℕ
  pub packets : List (List Buffer)
  pub took : taken new.end ≡ taken old.end ++ segments
  pub posts : posted new.end ≡ posted old.end ++ numbers
  pub appended : new.list ≡ old.list ++ packets
  pub stash : old.stash ≡ numbers ++ new.stash
  pub chained : going_on old.chain ++ segments ≡ segments_in packets ++ going_on new.chain
  pub framed : frames piece_of (taken new.end) ≡ frames piece_of (taken old.end) ++ map bytes_of packets
  pub lawful : All (IsTaken (driver_size old.end)) packets
  pub shut : is_open (driver_state old.end) ≡ false → numbers ≡ []
  pub none_back : reclaimed new.end ≡ reclaimed old.end
  pub out : out_of itself old.end ++ numbers ≡ numbers_in segments ++ out_of itself new.end
  pub state : driver_state new.end ≡ driver_state old.end
  pub head : (known_of new.end).head ≡ (known_of old.end).head
  pub quiet : saw_quiet new.end ≡ saw_quiet old.end
  pub drained : is_drained old.end ≡ true → is_drained new.end ≡ true

-- A step of polling, or the posting of a buffer.
abbrev pub is_exchange : DriverStep → Bool
is_exchange (driver.Own (NotDone place word)) = true
is_exchange (driver.Own (Taken place word buf)) = true
is_exchange e = is_post e

-- After some polls and postings, the last poll found nothing: a descriptor without DD was loaded, or all posted buffers
-- are taken. If the queue was seen quiet before, nothing is left to take.
pub record SawNothing (old new : DriverSide) : Type 0 where
  pub before : DriverSide
  pub polling : Runs is_exchange old before
  pub last : SawNotDone before new ⊎ SawEmpty before new
  pub drained : saw_quiet old ≡ true → is_drained new ≡ true

-- Why polling stopped after `count` packets: the batch is full, the list is full, or nothing more was found.
abbrev pub Stopped : ℕ → ℕ → ℕ → List (List Buffer) → DriverSide → DriverSide → Type 0
Stopped batch most count list old new = (count ≡ batch) ⊎ ((length list ≡ most) ⊎ SawNothing old new)

-- The number of packets that a batch may append to a list of at most `most`.
abbrev pub batch_of : ℕ → ℕ → List (List Buffer) → ℕ
batch_of batch most list = min batch (most - length list)

-- The effect of polling: how the lists grew. The chain is the rest of an unfinished frame.
pub record Polled (old : Hands) (count : ℕ) (new : Hands) : Type 0 where
  pub grew : GrewBy old new
  pub count_is : length new.list ≡ length old.list + count
  pub runs : Runs is_exchange old.end new.end
  pub unpublished : published new.end ≡ published old.end
  pub rest : IsRest new.end new.chain

-- The effect of posting: buffers with these numbers went from the stash to the ring, none if a disabling was asked.
pub record Filled (old : DriverSide) (had : List ℕ) (new : DriverSide) (has : List ℕ) : Type 0 where
  pub numbers : List ℕ
  pub fills : new ≡ posting numbers old
  pub runs : Runs is_post old new
  pub did : driver_record new ≡ record (driver_record old) { posted = posted old ++ numbers }
  pub known : known_of new ≡ known_of old
  pub stash : had ≡ numbers ++ has
  pub out : out_of itself old ++ numbers ≡ out_of itself new
  pub shut : is_open (driver_state old) ≡ false → numbers ≡ []

-- The effect of a batch on a live queue: polling until it stopped, then postings, then a store of the tail if anything
-- was posted. If the queue was seen quiet before, and neither the batch nor the list is full, nothing is left to take.
pub record Batched (batch most count : ℕ) (old new : Hands) : Type 0 where
  pub grew : GrewBy old new
  pub count_is : length new.list ≡ length old.list + count
  pub few : count ≤ batch
  pub steps : Exchanges (batch_of batch most old.list) grew.segments old.end old.stash new.end new.stash
  pub open steps use {polled, filled, tail}
  pub polling : Runs is_exchange old.end polled
  pub stopped : Stopped batch most count new.list old.end polled
  pub filling : Runs is_post polled filled
  pub drained : saw_quiet old.end ≡ true → ¬ (count ≡ batch) → ¬ (length new.list ≡ most) → is_drained new.end ≡ true
