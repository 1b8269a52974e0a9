-- The behaviour of the device's side of a transmit queue.
use Rattle.std.specs.Prelude.{◌≡◌, ℕ, ◌+◌, ◌%◌, ◌<◌, Bool, true, false, List, [], ◌∷◌, ◌++◌, length, drop, None, Result, Ok, Err}
use Rattle.buffer_pool.specs.Buffer.{Buffer}
use Rattle.ring_model.specs.shared.Frames.{Bytes, ends_frame, frames, join}
use Rattle.ring_model.specs.shared.Handshakes.{is_serving}
use Rattle.ring_model.specs.transmit.Ring.{carried}
use Rattle.shared_ring.specs.declared.events.ControllerEvent.TheVariants.{Fetched, Own}
use Rattle.tx_ring.specs.declared.events.TxControllerOwn.TheVariants.{Sent}
use Rattle.tx_ring.specs.Records.{Posting, posting_of}
use Rattle.tx_ring.specs.Ends.{ControllerSide, controller_size, controller_record, controller_state, sent, held, is_owed, is_at_frame_end, head_stored, serve_place, controller_grown}
use Rattle.tx_ring.specs.Calls.{FoundReady, report_of}
use Rattle.refusals.specs.declared.errors.CtlError.{CtlError}
use Rattle.refusals.specs.declared.errors.CtlError.TheVariants.{FrameLength, Memory}
use Rattle.controller.specs.declared.transmitting.Turn.{Turn}
use Rattle.controller.specs.declared.transmitting.Turn.TheVariants as turn
use Rattle.controller.specs.declared.sending_into.TurnInto.{TurnInto}
use Rattle.controller.specs.declared.sending_into.TurnInto.TheVariants as into
use Rattle.controller.specs.Chained.{Chained}

-- Nothing is held, the last sent segment ends a frame, the head is stored after it while the end serves, and no report
-- is owed.
pub record IsIdle (c : ControllerSide) : Type 0 where
  pub unheld : held c ≡ None
  pub at_frame_end : is_at_frame_end c ≡ true
  pub head : is_serving (controller_state c) ≡ true → head_stored c ≡ serve_place c
  pub paid : is_owed c ≡ false

-- B4 and B5: the next descriptor was fetched, and its posting sent.
pub record SentSegment (old : ControllerSide) (p : Posting) (new : ControllerSide) : Type 0 where
  pub word : ℕ
  pub buf : Buffer
  pub item : p ≡ posting_of word buf
  pub step : new ≡ controller_grown (controller_grown old (Fetched (serve_place old) word buf)) (Own (Sent ((length (sent old) + 1) % controller_size old) word buf))
  pub grew : sent new ≡ sent old ++ p ∷ []

-- Whether the last posting of the list asks for a report.
abbrev pub asks : List Posting → Bool
asks ps = ends_frame (λ p. p.rs) false ps

-- B6, if a report is asked for.
abbrev pub reported : Bool → ControllerSide → ControllerSide
reported true c = controller_grown c (Own (report_of (controller_size c) c.completion (length (sent c))))
reported false c = c

-- The postings of a whole frame were sent, and reported if the last of them asks for it.
pub record SentFrame (old : ControllerSide) (f : Bytes) (new : ControllerSide) : Type 0 where
  pub postings : List Posting
  pub last : ControllerSide
  pub each : Chained SentSegment old postings last
  pub report : new ≡ reported (asks postings) last
  pub bytes : f ≡ join carried postings
  pub grew : controller_record new ≡ record (controller_record old) { completed = sent old ++ postings; held = None; head = serve_place last; barred = false }
  pub frames_are : frames carried (sent new) ≡ frames carried (sent old) ++ f ∷ []

-- The results of `turn`. Off: the end does not serve.
pub record WasOff (old : ControllerSide) (wire : List Bytes) (new : ControllerSide) (wire' : List Bytes) : Type 0 where
  pub off : is_serving (controller_state old) ≡ false
  pub same : new ≡ old
  pub same_wire : wire' ≡ wire

-- A load of the tail showed that nothing is ready.
pub record WasIdle (old : ControllerSide) (wire : List Bytes) (new : ControllerSide) (wire' : List Bytes) : Type 0 where
  pub serving : is_serving (controller_state old) ≡ true
  pub looked : FoundReady old 0 new
  pub same_wire : wire' ≡ wire

-- The tail was loaded and the next frame sent. It is one more on the wire.
pub record WasSent (old : ControllerSide) (wire : List Bytes) (new : ControllerSide) (wire' : List Bytes) : Type 0 where
  pub serving : is_serving (controller_state old) ≡ true
  pub ready : ℕ
  pub tail : ControllerSide
  pub looked : FoundReady old ready tail
  pub some_ready : 0 < ready
  pub frame : Bytes
  pub went : SentFrame tail frame new
  pub on_wire : wire' ≡ wire ++ frame ∷ []

-- The tail was loaded and something is ready, but the wire could not grow: nothing was fetched.
pub record WasRefused (old : ControllerSide) (wire : List Bytes) (new : ControllerSide) (wire' : List Bytes) : Type 0 where
  pub serving : is_serving (controller_state old) ≡ true
  pub ready : ℕ
  pub looked : FoundReady old ready new
  pub some_ready : 0 < ready
  pub same_wire : wire' ≡ wire

abbrev pub Turned : ControllerSide → List Bytes → Result Turn CtlError → ControllerSide → List Bytes → Type 0
Turned old wire (Ok turn.Off) new wire' = WasOff old wire new wire'
Turned old wire (Ok turn.Idle) new wire' = WasIdle old wire new wire'
Turned old wire (Ok turn.Sent) new wire' = WasSent old wire new wire'
Turned old wire (Err Memory) new wire' = WasRefused old wire new wire'
Turned old wire (Err FrameLength) new wire' = ⊥

-- The results of `turn_into`. The next frame was sent, as onto an empty wire, and is at the beginning of the room.
pub record WasPlaced (old : ControllerSide) (room : Bytes) (len : ℕ) (new : ControllerSide) (room' : Bytes) : Type 0 where
  pub frame : Bytes
  pub was : WasSent old [] new (frame ∷ [])
  pub len_is : len ≡ length frame
  pub copied : room' ≡ frame ++ drop (length frame) room

-- The next frame was sent onto the wire, because it is longer than the room.
pub record WasTooLong (old : ControllerSide) (wire : List Bytes) (room : Bytes) (new : ControllerSide) (wire' : List Bytes) : Type 0 where
  pub was : WasSent old wire new wire'
  pub long : length room < length was.frame

abbrev pub TurnedInto : ControllerSide → List Bytes → Bytes → Result TurnInto CtlError → ControllerSide → List Bytes → Bytes → Type 0
TurnedInto old wire room (Ok into.Off) new wire' room' = WasOff old wire new wire' × (room' ≡ room)
TurnedInto old wire room (Ok into.Idle) new wire' room' = WasIdle old wire new wire' × (room' ≡ room)
TurnedInto old wire room (Ok (into.InRoom len)) new wire' room' = WasPlaced old room len new room' × (wire' ≡ wire)
TurnedInto old wire room (Ok into.OnWire) new wire' room' = WasTooLong old wire room new wire' × (room' ≡ room)
TurnedInto old wire room (Err Memory) new wire' room' = WasRefused old wire new wire' × (room' ≡ room)
TurnedInto old wire room (Err FrameLength) new wire' room' = ⊥
