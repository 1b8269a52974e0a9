-- The behaviour of the device's side of a receive queue.
use Rattle.std.specs.Prelude.{◌≡◌, ℕ, ◌<◌, ◌≤◌, ◌⊎◌, Bool, true, false, not, ◌&&◌, List, ◌∷◌, ◌++◌, [], map, length, None, Result, Ok, Err}
use Rattle.limits.specs.declared.profile.TheConstants.{BUFFER_BYTES}
use Rattle.ring_model.specs.shared.Frames.{Bytes, cut, frames, piece_count, HasFrameLength}
use Rattle.ring_model.specs.shared.Handshakes.{is_serving}
use Rattle.ring_model.specs.shared.Segments.{Segment, piece_of}
use Rattle.shared_ring.specs.declared.events.ControllerEvent.TheVariants.{StoredHead, Own}
use Rattle.rx_ring.specs.declared.events.RxControllerOwn.TheVariants.{SaidQuiet}
use Rattle.rx_ring.specs.Ends.{ControllerSide, controller_size, controller_record, controller_state, stored, known_free, held, is_quiet, is_at_frame_end, head_stored, serve_place, controller_grown}
use Rattle.rx_ring.specs.Calls.{FoundFree, StoredSegment}
use Rattle.refusals.specs.declared.errors.CtlError.{CtlError}
use Rattle.refusals.specs.declared.errors.CtlError.TheVariants.{FrameLength, Memory}
use Rattle.controller.specs.declared.offer.Offer.{Offer}
use Rattle.controller.specs.declared.offer.Offer.TheVariants.{Off, Oversize, Stored, Dropped, Held}
use Rattle.counters.specs.declared.tally.Tally.{Tally}
use Rattle.counters.specs.Kinds.{AddsUp}
use Rattle.controller.specs.Chained.{Chained}
use Rattle.controller.specs.Tallying.{counted}

-- The end, the number of bytes to which it fills buffers, whether it drops frames if too few descriptors are free, and
-- its tally.
pub record Receiving : Type 0 where
  pub end : ControllerSide
  pub bsize : ℕ
  pub drop_en : Bool
  pub tally : Tally

-- Nothing is held, the last stored segment ends a frame, and the head is stored after it.
pub record IsIdle (c : ControllerSide) : Type 0 where
  pub unheld : held c ≡ None
  pub at_frame_end : is_at_frame_end c ≡ true
  pub head : head_stored c ≡ serve_place c

-- The end serves its queue and has not said that it stores no more.
abbrev pub may_store : ControllerSide → Bool
may_store c = is_serving (controller_state c) && not (is_quiet c)

-- The number of descriptors that a frame needs.
abbrev pub needed : Receiving → Bytes → ℕ
needed r f = piece_count r.bsize (length f)

-- At least `count` descriptors are known to be free.
pub record KnewRoom (old : ControllerSide) (count : ℕ) (new : ControllerSide) : Type 0 where
  pub enough : count ≤ known_free old
  pub same : new ≡ old

-- Too few were known, and a load of the tail showed enough.
pub record FoundRoom (old : ControllerSide) (count : ℕ) (new : ControllerSide) : Type 0 where
  pub few_known : known_free old < count
  pub free : ℕ
  pub looked : FoundFree old free new
  pub enough : count ≤ free

-- Too few were known, and a load of the tail showed too few.
pub record FoundNoRoom (old : ControllerSide) (count : ℕ) (new : ControllerSide) : Type 0 where
  pub few_known : known_free old < count
  pub free : ℕ
  pub looked : FoundFree old free new
  pub few : free < count

-- Each piece of a frame was stored in a segment, and then the head was stored, once.
pub record StoredFrame (b : ℕ) (f : Bytes) (old new : ControllerSide) : Type 0 where
  pub segments : List (Segment Bytes)
  pub last : ControllerSide
  pub each : Chained StoredSegment old segments last
  pub head : new ≡ controller_grown last (StoredHead (serve_place last))
  pub pieces : map piece_of segments ≡ cut b f
  pub grew : controller_record new ≡ record (controller_record old) { completed = stored old ++ segments; held = None; head = serve_place last }
  pub frames_are : frames piece_of (stored new) ≡ frames piece_of (stored old) ++ f ∷ []

-- The results of `offer`. Refused: no frame has this length.
pub record WasRefused (old : Receiving) (f : Bytes) (new : Receiving) : Type 0 where
  pub unlawful : ¬ HasFrameLength f
  pub same : new ≡ old

-- The end does not serve, or is quiet.
pub record WasOff (old : Receiving) (f : Bytes) (new : Receiving) : Type 0 where
  pub lawful : HasFrameLength f
  pub off : may_store old.end ≡ false
  pub same : new ≡ old

-- The frame needs more than n - 1 descriptors.
pub record WasOversize (old : Receiving) (f : Bytes) (new : Receiving) : Type 0 where
  pub lawful : HasFrameLength f
  pub on : may_store old.end ≡ true
  pub many : controller_size old.end ≤ needed old f
  pub same : new ≡ record old { tally = counted old.tally Oversize }

-- The frame's pieces are stored. Enough descriptors were known to be free, or a load of the tail showed them.
pub record WasStored (old : Receiving) (f : Bytes) (new : Receiving) : Type 0 where
  pub lawful : HasFrameLength f
  pub on : may_store old.end ≡ true
  pub fits : needed old f < controller_size old.end
  pub ready : ControllerSide
  pub room : KnewRoom old.end (needed old f) ready ⊎ FoundRoom old.end (needed old f) ready
  pub frame : StoredFrame old.bsize f ready new.end
  pub same : new ≡ record old { end = new.end; tally = counted old.tally Stored }

-- A load of the tail in this call showed too few free descriptors, and nothing is stored.
pub record WasScarce (old : Receiving) (f : Bytes) (offer : Offer) (new : Receiving) : Type 0 where
  pub lawful : HasFrameLength f
  pub on : may_store old.end ≡ true
  pub fits : needed old f < controller_size old.end
  pub tail : FoundNoRoom old.end (needed old f) new.end
  pub same : new ≡ record old { end = new.end; tally = counted old.tally offer }

-- With Drop_En the frame is dropped, otherwise it is held.
pub record WasDropped (old : Receiving) (f : Bytes) (new : Receiving) : Type 0 where
  pub drops : old.drop_en ≡ true
  pub scarce : WasScarce old f Dropped new

pub record WasHeld (old : Receiving) (f : Bytes) (new : Receiving) : Type 0 where
  pub holds : old.drop_en ≡ false
  pub scarce : WasScarce old f Held new

abbrev pub Offered : Receiving → Bytes → Result Offer CtlError → Receiving → Type 0
Offered old f (Err FrameLength) new = WasRefused old f new
Offered old f (Err Memory) new = ⊥
Offered old f (Ok Off) new = WasOff old f new
Offered old f (Ok Oversize) new = WasOversize old f new
Offered old f (Ok Stored) new = WasStored old f new
Offered old f (Ok Dropped) new = WasDropped old f new
Offered old f (Ok Held) new = WasHeld old f new

-- The frames that the result adds to those stored.
abbrev pub frames_by : Result Offer CtlError → Bytes → List Bytes
frames_by (Ok Stored) f = f ∷ []
frames_by (Ok Off) f = []
frames_by (Ok Oversize) f = []
frames_by (Ok Dropped) f = []
frames_by (Ok Held) f = []
frames_by (Err e) f = []

-- C7: quiet was said, once. After that the end may store no more in this epoch.
pub record SaidItAll (old new : ControllerSide) : Type 0 where
  pub may : may_store old ≡ true
  pub step : new ≡ controller_grown old (Own SaidQuiet)
  pub same : controller_record new ≡ record (controller_record old) { barred = true }

-- The end does not serve, or had already said that it is quiet.
pub record HadFinished (old new : ControllerSide) : Type 0 where
  pub over : may_store old ≡ false
  pub same : new ≡ old

abbrev pub Finished : ControllerSide → Bool → ControllerSide → Type 0
Finished old true new = SaidItAll old new
Finished old false new = HadFinished old new

-- The invariants of a controller's fields.
pub record IsReceiver (c : Receiving) : Type 0 where
  pub idle : IsIdle c.end
  pub least : 1024 ≤ c.bsize
  pub most : c.bsize ≤ BUFFER_BYTES
  pub adds : AddsUp c.tally
