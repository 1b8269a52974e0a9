-- Sending a frame: the effects of the parts of a turn on the end and the arena.
use Rattle.std.specs.Prelude.{◌≡◌, ℕ, ◌+◌, ◌<◌, ◌≤◌, ◌⊎◌, Bool, true, false, [], ◌∷◌, ◌++◌, length, take, drop, Option, Some, None}
use Rattle.descriptor.specs.Transmit.{paylen_of}
use Rattle.limits.specs.declared.profile.TheConstants.{MOST_FRAME}
use Rattle.ring_model.specs.shared.Frames.{Bytes, join, unfinished}
use Rattle.ring_model.specs.shared.Handshakes.{is_serving}
use Rattle.ring_model.specs.transmit.Ring.{carried}
use Rattle.ring_model.specs.transmit.Frames.{MayFollow}
use Rattle.tx_ring.specs.Records.{Posting}
use Rattle.tx_ring.specs.Ends.{ControllerSide, controller_size, controller_record, controller_state, known_ready, sent, held, head_stored, serve_place, is_owed}
use Rattle.controller.specs.Laid.{Laid}
use Rattle.controller.specs.Transmitting.{SentSegment, SentFrame}

-- The next segment is ready, nothing is held, and no report is owed.
pub record IsReady (end : ControllerSide) : Type 0 where
  pub serving : is_serving (controller_state end) ≡ true
  pub unheld : held end ≡ None
  pub paid : is_owed end ≡ false
  pub ready : 0 < known_ready end

-- The next segment is ready, and the wire has room for it after the earlier segments of its frame.
pub record CanSend (end : ControllerSide) (arena : Laid) : Type 0 where
  pub next : IsReady end
  pub begun : arena.begun ≡ join carried (unfinished carried (sent end))
  pub room : MOST_FRAME ≤ length arena.begun + arena.room

-- A segment was sent. If it does not end its frame, more is ready.
pub record SentNext (old : ControllerSide) (p : Posting) (ends : Bool) (new : ControllerSide) : Type 0 where
  pub sent_it : SentSegment old p new
  pub follows : MayFollow (controller_size old) (unfinished carried (sent old)) p
  pub ends_is : p.eop ≡ ends
  pub same : controller_record new ≡ record (controller_record old) { completed = sent old ++ p ∷ []; held = None; head = (controller_record new).head; barred = p.rs }
  pub head : head_stored new ≡ serve_place new
  pub ready : ends ≡ false → 1 < known_ready old

-- The bytes were added to those of an unfinished frame on the wire.
pub record Appended (bytes : Bytes) (arena arena' : Laid) : Type 0 where
  pub frames : arena'.frames ≡ arena.frames
  pub begun : arena'.begun ≡ arena.begun ++ bytes
  pub room : arena.room ≤ arena'.room + length bytes
  pub entries : arena'.entries ≡ arena.entries

-- A segment was sent, and its bytes added to those of its frame on the wire.
pub record SentBytes (old : ControllerSide) (arena : Laid) (ends : Bool) (new : ControllerSide) (arena' : Laid) : Type 0 where
  pub posting : Posting
  pub went : SentNext old posting ends new
  pub appended : Appended posting.payload arena arena'
  pub open appended use *

-- The next frame was sent, and is one more on the wire.
pub record SentOn (old : ControllerSide) (arena : Laid) (new : ControllerSide) (arena' : Laid) : Type 0 where
  pub frame : Bytes
  pub went : SentFrame old frame new
  pub frames : arena'.frames ≡ arena.frames ++ frame ∷ []
  pub begun : arena'.begun ≡ []
  pub own : new.table ≡ old.table

-- ---- into a room of bytes, or onto the wire if the frame is longer

-- The bytes are in the room from `at` on, and end at `past`.
pub record PutInRoom (bytes room : Bytes) (at : ℕ) (arena : Laid) (room' : Bytes) (past : ℕ) (arena' : Laid) : Type 0 where
  pub past_is : past ≡ at + length bytes
  pub within : past ≤ length room
  pub written : room' ≡ take at room ++ (bytes ++ drop past room)
  pub same : arena' ≡ arena

-- The bytes are added to those of an unfinished frame on the wire.
pub record PutOnWire (bytes room : Bytes) (at : ℕ) (arena : Laid) (room' : Bytes) (past : ℕ) (arena' : Laid) : Type 0 where
  pub past_is : past ≡ at
  pub kept : room' ≡ room
  pub appended : Appended bytes arena arena'
  pub open appended use *

-- The bytes of a segment, whose frame has `len` bytes, are added to those of its frame: in the room if the frame fits
-- there, otherwise on the wire.
abbrev pub Put : ℕ → Bytes → Bytes → ℕ → Laid → Bytes → ℕ → Laid → Type 0
Put len bytes room at arena room' past arena' = ((len ≤ length room) × PutInRoom bytes room at arena room' past arena') ⊎ ((length room < len) × PutOnWire bytes room at arena room' past arena')

-- There is room for the bytes of a segment with this word.
pub record MayPut (word : ℕ) (bytes room : Bytes) (at : ℕ) (arena : Laid) : Type 0 where
  pub in_room : paylen_of word ≤ length room → at + length bytes ≤ length room
  pub on_wire : length room < paylen_of word → length bytes ≤ arena.room

-- The next segment is ready, and there is room for it after the earlier segments of its frame.
pub record CanPut (end : ControllerSide) (room : Bytes) (at : ℕ) (arena : Laid) : Type 0 where
  pub next : IsReady end
  pub in_room : (p : Posting) → MayFollow (controller_size end) (unfinished carried (sent end)) p → p.paylen ≤ length room → at + length p.payload ≤ length room
  pub on_wire : (p : Posting) → MayFollow (controller_size end) (unfinished carried (sent end)) p → length room < p.paylen → length p.payload ≤ arena.room

-- A segment was sent, and its bytes added to those of its frame.
pub record SentPut (old : ControllerSide) (room : Bytes) (at : ℕ) (arena : Laid) (ends : Bool) (new : ControllerSide) (room' : Bytes) (past : ℕ) (arena' : Laid) : Type 0 where
  pub posting : Posting
  pub went : SentNext old posting ends new
  pub put : Put posting.paylen posting.payload room at arena room' past arena'

-- The next frame was sent, and is at the beginning of the room.
pub record SentInRoom (old : ControllerSide) (arena : Laid) (room : Bytes) (len : ℕ) (new : ControllerSide) (arena' : Laid) (room' : Bytes) : Type 0 where
  pub frame : Bytes
  pub went : SentFrame old frame new
  pub len_is : len ≡ length frame
  pub copied : room' ≡ frame ++ drop (length frame) room
  pub same : arena' ≡ arena
  pub own : new.table ≡ old.table

-- The next frame was sent. It is longer than the room, and one more on the wire.
pub record SentPast (old : ControllerSide) (arena : Laid) (room : Bytes) (new : ControllerSide) (arena' : Laid) (room' : Bytes) : Type 0 where
  pub on : SentOn old arena new arena'
  pub long : length room < length on.frame
  pub kept : room' ≡ room

abbrev pub SentInto : ControllerSide → Laid → Bytes → Option ℕ → ControllerSide → Laid → Bytes → Type 0
SentInto old arena room (Some len) new arena' room' = SentInRoom old arena room len new arena' room'
SentInto old arena room None new arena' room' = SentPast old arena room new arena' room'
