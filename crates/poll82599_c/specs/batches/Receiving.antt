-- A receive queue's driver and its device, and their steps.
use Rattle.std.specs.Prelude.{◌≡◌, ◌≢◌, ℕ, zero, suc, ◌+◌, ◌++◌, Bool, true, false, Option, [], ◌∷◌, length}
use Rattle.ring_model.specs.receive.Lawful.{IsLawfulRxLedger}
use Rattle.ring_model.specs.shared.Frames.{Bytes, frames}
use Rattle.ring_model.specs.shared.Handshakes.{is_open}
use Rattle.ring_model.specs.shared.Segments.{piece_of}
use Rattle.shared_ring.specs.declared.control.Control.{Control}
use Rattle.shared_ring.specs.declared.events.DriverEvent.TheVariants as driver
use Rattle.shared_ring.specs.Words.{control_word}
use Rattle.rx_ring.specs.declared.events.RxDriverOwn.TheVariants.{LoadedQuiet}
use Rattle.rx_ring.specs.Calls.{GoneOver, IsTold, told_left}
use Rattle.rx_ring.specs.Ends.{driver_grown, driver_size, driver_state, stored, taken}
use Rattle.rx_ring.specs.Form.{rx}
use Rattle.rx_ring.specs.Meeting.{MadeSeats, ledger_of, stored_now}
use Rattle.limits.specs.declared.profile.TheConstants.{MOST_BATCH}
use Rattle.driver.specs.receive.Batches.{Batched, IsFilled}
use Rattle.driver.specs.receive.Receiver.{Receiver, hands}
use Rattle.driver.specs.receive.Returns.{GaveBack, IsEmptied}
use Rattle.controller.specs.Handshaking.{TurnedControl}
use Rattle.controller.specs.Receiving.{Finished, Receiving, WasDropped, WasHeld, WasOff, WasOversize, WasRefused, WasStored}
use Rattle.counters.specs.Kinds.{nothing}
use Rattle.poll82599_c.specs.Held.{Between, Both, Of, OfBoth}
use Rattle.poll82599_c.specs.batches.Packets.{Worked}
use Rattle.poll82599_c.specs.batches.Queues.{DidAlike, Kind, TriedLive}

-- The driver and the device of a fresh ring of n descriptors: at most `batch` packets in a batch, buffers filled to
-- `fill` bytes, and frames without enough free descriptors dropped or held
pub record ArePair (n batch fill : ℕ) (drop_en : Bool) (q : Receiver) (d : Receiving) : Type 0 where
  pub ends : MadeSeats n q.end.table q.end d.end
  pub no_chain : q.chain ≡ []
  pub batch_is : q.batch ≡ batch
  pub fill_is : d.bsize ≡ fill
  pub drops : d.drop_en ≡ drop_en
  pub uncounted : d.tally ≡ nothing

abbrev pub AreMade : ℕ → ℕ → ℕ → Bool → Option Receiver → Option Receiving → Type 0
AreMade n batch fill drop_en = Both (ArePair n batch fill drop_en)

-- if both are there, they belong to one ring
abbrev pub AreOfOne : Option Receiver → Option Receiving → Type 0
AreOfOne = OfBoth (λ q d. q.end.table ≡ d.end.table)

-- the device is there before and after, and belongs to the same ring
abbrev pub SameDevice : Option Receiving → Option Receiving → Type 0
SameDevice = Between (λ old new. new.end.table ≡ old.end.table)

-- if both are there, their records are those of one lawful ring: the driver took a beginning of what was stored
abbrev pub AreLawful : Option Receiver → Option Receiving → Type 0
AreLawful = OfBoth (λ q d. IsLawfulRxLedger Bytes (driver_size q.end) (ledger_of q.end d.end))

-- if the head was loaded, the number left is that of the stored segments that were not taken
abbrev pub AreTold : Option Receiver → Option Receiving → Type 0
AreTold = OfBoth (λ q d. IsTold (told_left q.end) (length (taken q.end)) (length (stored_now q.end d.end)))

-- these are a device's counts, and each offered frame was stored, dropped or oversize
abbrev pub AreCounts : ℕ → ℕ → ℕ → ℕ → Option Receiving → Type 0
AreCounts offered stored dropped oversize = Of (λ d. (d.tally ≡ record { offered = offered; stored = stored; dropped = dropped; oversize = oversize }) × (offered ≡ stored + dropped + oversize))

-- ---- a driver's calls

-- a batch of `count` packets was taken, and appended to the worker's
pub record TookBatch (count : ℕ) (old : Receiver) (had : Worked) (new : Receiver) (has : Worked) : Type 0 where
  pub batch : Batched old.batch MOST_BATCH count (hands old had.stash had.packets) (hands new has.stash has.packets)
  pub filled : is_open (driver_state old.end) ≡ true → IsFilled new.end has.stash
  pub same : new.batch ≡ old.batch

-- buffers of a disabled queue came back into the stash
pub record CameInto (old : Receiver) (had : Worked) (new : Receiver) (has : Worked) : Type 0 where
  pub back : GaveBack old had.stash new has.stash
  pub kept : has.packets ≡ had.packets

-- a queue from which all buffers came back begins a new epoch
pub record Renewed (old new : Receiver) : Type 0 where
  pub emptied : IsEmptied old
  pub begun : GoneOver old.end new.end
  pub rest : new ≡ record old { end = new.end }

-- the receive direction of a driver of queues
abbrev pub receiver : Kind rx Receiver
receiver = record { end_of = λ q. q.end; with_end = λ q e. record q { end = e }; told_left = told_left; IsEmptied = IsEmptied; CameInto = CameInto; Renewed = Renewed }

-- C8: the quiet word had this value
abbrev pub FoundQuiet : ℕ → Receiver → Receiver → Type 0
FoundQuiet value old new = new ≡ record old { end = driver_grown old.end (driver.Own (LoadedQuiet value)) }

-- ---- the results of a driver's calls, and their steps

-- 1: a batch of `count` packets was taken; 0: the queue was not seen on, or was seen disabled
abbrev pub TriedBatch : ℕ → ℕ → Receiver → Worked → Receiver → Worked → Type 0
TriedBatch = TriedLive receiver TookBatch

-- the step of an operation, by its number, with this result
abbrev pub Did : ℕ → ℕ → ℕ → Receiver → Receiver → Type 0
Did (suc (suc (suc (suc zero)))) answer count old new = FoundQuiet answer old new
Did operation answer count old new = DidAlike receiver operation answer count old new

-- ---- a device's calls

-- the frame is stored, whole
pub record StoredWhole (frame : Bytes) (old new : Receiving) : Type 0 where
  pub was : WasStored old frame new
  pub frames_are : frames piece_of (stored new.end) ≡ frames piece_of (stored old.end) ++ frame ∷ []

-- the result of offering a frame, and its step: 1 stored; 0 held, offer it again; 2 refused for its length; 3 off; 4
-- oversize; 5 dropped
abbrev pub TriedOffer : ℕ → Bytes → Receiving → Receiving → Type 0
TriedOffer zero frame old new = WasHeld old frame new
TriedOffer (suc zero) frame old new = StoredWhole frame old new
TriedOffer (suc (suc zero)) frame old new = WasRefused old frame new
TriedOffer (suc (suc (suc zero))) frame old new = WasOff old frame new
TriedOffer (suc (suc (suc (suc zero)))) frame old new = WasOversize old frame new
TriedOffer (suc (suc (suc (suc (suc zero))))) frame old new = WasDropped old frame new
TriedOffer _ frame old new = ⊥

-- the control word was loaded, and a request answered if possible: `value` is the word that was stored, otherwise the
-- one loaded
pub record Turned (value : ℕ) (old new : Receiving) : Type 0 where
  pub told : Control
  pub value_is : value ≡ control_word told
  pub turned : TurnedControl old.end told new.end
  pub same : new ≡ record old { end = new.end }

-- C7: the device said that it stores no more; or it does not serve, or had said so
pub record TriedQuiet (did : Bool) (old new : Receiving) : Type 0 where
  pub finished : Finished old.end did new.end
  pub same : new ≡ record old { end = new.end }

-- 1: the device said so now; or it did not
abbrev pub TriedFinish : ℕ → Receiving → Receiving → Type 0
TriedFinish answer old new = (answer ≡ 1 → TriedQuiet true old new) × (answer ≢ 1 → TriedQuiet false old new)
