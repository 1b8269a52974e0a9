-- A transmit queue's driver and its device, and their steps.
use Rattle.std.specs.Prelude.{◌≡◌, ℕ, zero, suc, ◌+◌, ◌++◌, ◌<◌, Option, List, [], ◌∷◌, ◌⊎◌, length, take, drop, map}
use Rattle.buffer_pool.specs.Packed.{bytes_of}
use Rattle.ring_model.specs.declared.states.Completion.{Completion}
use Rattle.ring_model.specs.shared.Frames.{Bytes, frames}
use Rattle.ring_model.specs.transmit.Lawful.{IsLawfulTxLedger}
use Rattle.ring_model.specs.transmit.Ring.{carried, number_of_posting}
use Rattle.shared_ring.specs.declared.control.Control.{Control}
use Rattle.shared_ring.specs.Words.{control_word}
use Rattle.tx_ring.specs.Calls.{GoneOver}
use Rattle.tx_ring.specs.Ends.{ControllerSide, driver_size, posted, returned, sent}
use Rattle.tx_ring.specs.Form.{tx}
use Rattle.tx_ring.specs.Meeting.{IsTold, MadeSeats, ledger_of, sent_now, told_left}
use Rattle.driver.specs.Reclaiming.{CameBack}
use Rattle.driver.specs.transmit.Batches.{Batched, CleanedAll, OnlyCleaned}
use Rattle.driver.specs.transmit.Returns.{IsEmptied}
use Rattle.driver.specs.transmit.Transmitter.{Transmitter, sending}
use Rattle.controller.specs.Handshaking.{TurnedControl}
use Rattle.controller.specs.Transmitting.{WasIdle, WasOff, WasRefused, WasSent}
use Rattle.poll82599_c.specs.Held.{Between, Both, OfBoth}
use Rattle.poll82599_c.specs.batches.Packets.{Worked}
use Rattle.poll82599_c.specs.batches.Queues.{DidAlike, IsOff, Kind, TriedLive}

-- The driver and the device of a fresh ring of n descriptors that reports in this way; each `every`th frame asks for a
-- report
pub record ArePair (n every : ℕ) (by : Completion) (q : Transmitter) (d : ControllerSide) : Type 0 where
  pub ends : MadeSeats n by q.end.table q.end d
  pub every_is : q.every ≡ every
  pub uncounted : q.frames ≡ 0

abbrev pub AreMade : ℕ → ℕ → Completion → Option Transmitter → Option ControllerSide → Type 0
AreMade n every by = Both (ArePair n every by)

-- if both are there, they belong to one ring
abbrev pub AreOfOne : Option Transmitter → Option ControllerSide → Type 0
AreOfOne = OfBoth (λ q d. q.end.table ≡ d.table)

-- the device is there before and after, and belongs to the same ring
abbrev pub SameDevice : Option ControllerSide → Option ControllerSide → Type 0
SameDevice = Between (λ old new. new.table ≡ old.table)

-- if both are there, their records are those of one lawful ring: a beginning of what was posted was sent
abbrev pub AreLawful : Option Transmitter → Option ControllerSide → Type 0
AreLawful = OfBoth (λ q d. IsLawfulTxLedger Bytes (driver_size q.end) (ledger_of q.end d))

-- if the head was loaded, the number left is that of the posted segments that were not sent
abbrev pub AreTold : Option Transmitter → Option ControllerSide → Type 0
AreTold = OfBoth (λ q d. IsTold (told_left q.end) (length (sent_now q.end d)) (length (posted q.end)))

-- ---- a driver's calls

-- reported buffers were cleaned into the stash, and then the `count` oldest packets of the worker were posted and
-- published, each a frame of its bytes
pub record PostedBatch (count : ℕ) (old : Transmitter) (had : Worked) (new : Transmitter) (has : Worked) : Type 0 where
  pub batch : Batched count (sending old had.stash had.packets) (sending new has.stash has.packets)
  pub frames_are : frames carried (posted new.end) ≡ frames carried (posted old.end) ++ map bytes_of (take count had.packets)

-- the oldest packet is too long for the ring: only reported buffers were cleaned
abbrev pub CleanedAlone : Transmitter → Worked → Transmitter → Worked → Type 0
CleanedAlone old had new has = OnlyCleaned (sending old had.stash had.packets) (sending new has.stash has.packets)

-- `count` reported buffers were cleaned into the stash
pub record CleanedSome (count : ℕ) (old : Transmitter) (had : Worked) (new : Transmitter) (has : Worked) : Type 0 where
  pub cleaned : CleanedAll old.end had.stash new.end has.stash
  pub count_is : length has.stash ≡ length had.stash + count
  pub rest : new ≡ record old { end = new.end }
  pub kept : has.packets ≡ had.packets

-- buffers of a disabled queue came back into the stash
pub record CameInto (old : Transmitter) (had : Worked) (new : Transmitter) (has : Worked) : Type 0 where
  pub back : CameBack number_of_posting old.end had.stash new.end has.stash
  pub rest : new ≡ record old { end = new.end }
  pub kept : has.packets ≡ had.packets

-- a queue from which all buffers came back begins a new epoch, and counts its frames from 0
pub record Renewed (old new : Transmitter) : Type 0 where
  pub emptied : IsEmptied old
  pub begun : GoneOver old.end new.end
  pub rest : new ≡ record old { end = new.end; frames = 0 }

-- the transmit direction of a driver of queues
abbrev pub transmitter : Kind tx Transmitter
transmitter = record { end_of = λ q. q.end; with_end = λ q e. record q { end = e }; told_left = told_left; IsEmptied = IsEmptied; CameInto = CameInto; Renewed = Renewed }

-- ---- the results of a driver's calls, and their steps

-- 1: `count` packets were posted; 0: the queue was not seen on, or was seen disabled; 3: the oldest packet is too long,
-- and only reported buffers came back
abbrev pub TriedBatch : ℕ → ℕ → Transmitter → Worked → Transmitter → Worked → Type 0
TriedBatch zero count old had new has = IsOff transmitter old had new has
TriedBatch (suc zero) count old had new has = PostedBatch count old had new has
TriedBatch (suc (suc (suc zero))) count old had new has = CleanedAlone old had new has
TriedBatch _ count old had new has = ⊥

-- 1: `count` reported buffers came back; 0: the queue was not seen on, or was seen disabled
abbrev pub TriedCleaning : ℕ → ℕ → Transmitter → Worked → Transmitter → Worked → Type 0
TriedCleaning = TriedLive transmitter CleanedSome

-- 1, and `count` segments were posted that have not come back; nothing is done
pub record IsOutstanding (answer count : ℕ) (old new : Transmitter) : Type 0 where
  pub done : answer ≡ 1
  pub counted : count + returned old.end ≡ length (posted old.end)
  pub same : new ≡ old

-- the step of an operation, by its number, with this result
abbrev pub Did : ℕ → ℕ → ℕ → Transmitter → Transmitter → Type 0
Did (suc (suc (suc (suc zero)))) answer count old new = IsOutstanding answer count old new
Did operation answer count old new = DidAlike transmitter operation answer count old new

-- ---- a device's calls

-- A device: its controller's end, and the frame that was sent last, while it waits for room.
pub record SendingDevice : Type 0 where
  pub end : ControllerSide
  pub waiting : List Bytes

-- no frame waits before or after
pub record NoneWaits (old new : SendingDevice) : Type 0 where
  pub before : old.waiting ≡ []
  pub after : new.waiting ≡ []

-- the next frame was sent, one more than before
pub record SentWhole (frame : Bytes) (old new : ControllerSide) : Type 0 where
  pub was : WasSent old [] new (frame ∷ [])
  pub frames_are : frames carried (sent new) ≡ frames carried (sent old) ++ frame ∷ []

-- nothing is sent, because this frame was sent before and waits
pub record Waited (frame : Bytes) (old : SendingDevice) (new : ControllerSide) : Type 0 where
  pub waits : old.waiting ≡ frame ∷ []
  pub same : new ≡ old.end

-- this frame is at hand: no frame waited and it was sent now, or it was sent before
abbrev pub IsAtHand : Bytes → SendingDevice → ControllerSide → Type 0
IsAtHand frame old new = ((old.waiting ≡ []) × SentWhole frame old.end new) ⊎ Waited frame old new

-- the frame at hand is at the beginning of the room
pub record HandedOut (len : ℕ) (before after : Bytes) (old new : SendingDevice) : Type 0 where
  pub frame : Bytes
  pub at_hand : IsAtHand frame old new.end
  pub len_is : len ≡ length frame
  pub copied : after ≡ frame ++ drop (length frame) before
  pub none_waits : new.waiting ≡ []

-- the frame at hand is longer than the room, and waits
pub record StillWaits (len : ℕ) (before after : Bytes) (old new : SendingDevice) : Type 0 where
  pub frame : Bytes
  pub at_hand : IsAtHand frame old new.end
  pub len_is : len ≡ length frame
  pub long : length before < length frame
  pub kept : after ≡ before
  pub waits : new.waiting ≡ frame ∷ []

-- a load of the tail showed that nothing is ready
abbrev pub FoundIdle : SendingDevice → SendingDevice → Type 0
FoundIdle old new = WasIdle old.end [] new.end [] × NoneWaits old new

-- the device does not serve
abbrev pub FoundOff : SendingDevice → SendingDevice → Type 0
FoundOff old new = WasOff old.end [] new.end [] × NoneWaits old new

-- the tail was loaded, a frame is ready, and memory for it was refused: nothing was fetched
abbrev pub FoundNoMemory : SendingDevice → SendingDevice → Type 0
FoundNoMemory old new = WasRefused old.end [] new.end [] × NoneWaits old new

-- the result of handing out a frame, and its step: 1 and its length, in the room; 0 idle; 3 off; 4 and its length, longer
-- than the room, so it waits; 5 no memory
abbrev pub TriedTurn : ℕ → ℕ → Bytes → Bytes → SendingDevice → SendingDevice → Type 0
TriedTurn zero count before after old new = FoundIdle old new × (after ≡ before)
TriedTurn (suc zero) count before after old new = HandedOut count before after old new
TriedTurn (suc (suc (suc zero))) count before after old new = FoundOff old new × (after ≡ before)
TriedTurn (suc (suc (suc (suc zero)))) count before after old new = StillWaits count before after old new
TriedTurn (suc (suc (suc (suc (suc zero))))) count before after old new = FoundNoMemory old new × (after ≡ before)
TriedTurn _ count before after old new = ⊥

-- the control word was loaded, and a request answered if possible: `value` is the word that was stored, otherwise the
-- one loaded
pub record Turned (value : ℕ) (old new : SendingDevice) : Type 0 where
  pub told : Control
  pub value_is : value ≡ control_word told
  pub turned : TurnedControl old.end told new.end
  pub waiting : new.waiting ≡ old.waiting
