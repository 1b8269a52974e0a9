-- A worker's packets, and the steps of the exports on them.
use Rattle.std.specs.Prelude.{◌≡◌, ℕ, zero, suc, ◌+◌, ◌*◌, ◌<◌, ◌≤◌, ◌⊎◌, Option, Some, List, [], ◌∷◌, ◌++◌, length, map, reverse, remove, drop, slice_get, slice_index, slice_set}
use Rattle.buffer_pool.specs.Buffer.{Buffer, buffer}
use Rattle.buffer_pool.specs.Packed.{IsPacket, bytes_of, shape_of}
use Rattle.buffer_pool.specs.declared.stash.TheConstants.{STASH_BUFFERS}
use Rattle.limits.specs.declared.profile.TheConstants.{BUFFER_BYTES, MOST_BATCH, MOST_FRAME, MOST_SEGMENTS}
use Rattle.ring_model.specs.shared.Frames.{Bytes, HasFrameLength}
use Rattle.poll82599_c.specs.Stashes.{AreBuffers}
use Rattle.poll82599_c.specs.Held.{Of, There}

-- A worker's empty buffers, by their numbers, in the order in which they are taken; and its packets, the oldest first
pub record Worked : Type 0 where
  pub stash : List ℕ
  pub packets : List (List Buffer)

-- this many empty buffers left the worker, or came back to it
abbrev pub MovedBuffers : ℕ → Worked → Worked → Type 0
MovedBuffers count had has = (length had.stash ≡ count + length has.stash) ⊎ (length has.stash ≡ count + length had.stash)

-- `count` buffers, and no packet
pub record IsFresh (count : ℕ) (w : Worked) : Type 0 where
  pub buffers : AreBuffers count w.stash
  pub none : w.packets ≡ []

abbrev pub IsMade : ℕ → Option Worked → Type 0
IsMade count = There (IsFresh count)

-- the number of packets
abbrev pub HadPackets : ℕ → Option Worked → Type 0
HadPackets count = Of (λ w. count ≡ length w.packets)

abbrev pub numbers_of : List Buffer → List ℕ
numbers_of bufs = map (λ b. b.number) bufs

-- a packet of these bytes, in buffers of the stash
pub record Packed (frame : Bytes) (had : List ℕ) (packet : List Buffer) (has : List ℕ) : Type 0 where
  pub packet_is : IsPacket packet
  pub bytes : bytes_of packet ≡ frame
  pub stash : had ≡ numbers_of packet ++ has

-- one more buffer of the stash is appended to the packet, with these bytes
pub record Pushed (bytes : Bytes) (old : List Buffer) (had : List ℕ) (new : List Buffer) (has : List ℕ) : Type 0 where
  pub number : ℕ
  pub behind : new ≡ old ++ buffer number bytes ∷ []
  pub stash : had ≡ number ∷ has

-- the frame is the worker's last packet
pub record PutFrame (frame : Bytes) (old new : Worked) : Type 0 where
  pub packet : List Buffer
  pub made : Packed frame old.stash packet new.stash
  pub behind : new.packets ≡ old.packets ++ packet ∷ []

-- there are as many packets as there may be, or too few empty buffers for the frame
abbrev pub HasNoPlace : Bytes → Worked → Type 0
HasNoPlace frame w = (length w.packets ≡ MOST_BATCH) ⊎ (BUFFER_BYTES * length w.stash < length frame)

-- the packet cannot grow by these bytes in one more buffer
abbrev pub CannotGrow : Bytes → List Buffer → Type 0
CannotGrow bytes packet = (bytes ≡ []) ⊎ ((BUFFER_BYTES < length bytes) ⊎ ((length packet ≡ MOST_SEGMENTS) ⊎ (MOST_FRAME < length (bytes_of packet) + length bytes)))

-- 1: the packet has one more buffer; 0: the stash is empty; 2: the packet cannot grow by these bytes
abbrev pub TriedExtend : ℕ → Bytes → List Buffer → List ℕ → List Buffer → List ℕ → Type 0
TriedExtend zero bytes old had new has = (had ≡ []) × (new ≡ old) × (has ≡ had)
TriedExtend (suc zero) bytes old had new has = Pushed bytes old had new has
TriedExtend (suc (suc zero)) bytes old had new has = CannotGrow bytes old × (new ≡ old) × (has ≡ had)
TriedExtend _ bytes old had new has = ⊥

-- the last packet was extended, with this result
pub record Appended (answer : ℕ) (bytes : Bytes) (old new : Worked) : Type 0 where
  pub before : List (List Buffer)
  pub packet : List Buffer
  pub longer : List Buffer
  pub was : old.packets ≡ before ++ packet ∷ []
  pub is : new.packets ≡ before ++ longer ∷ []
  pub grew : TriedExtend answer bytes packet old.stash longer new.stash

-- 0 without a packet, and otherwise the result for the last packet
abbrev pub TriedAppend : ℕ → Bytes → Worked → Worked → Type 0
TriedAppend answer bytes old new = ((answer ≡ 0) × (old.packets ≡ []) × (new ≡ old)) ⊎ Appended answer bytes old new

-- the packet at this place
abbrev pub IsAt : Worked → ℕ → List Buffer → Type 0
IsAt w i packet = slice_get w.packets i ≡ Some packet

-- there is no packet at this place
abbrev pub IsAbsent : ℕ → Worked → Type 0
IsAbsent i w = length w.packets ≤ i

-- the packet has `len` bytes, more than the room
pub record IsTooShort (i len : ℕ) (room : Bytes) (w : Worked) : Type 0 where
  pub packet : List Buffer
  pub there : IsAt w i packet
  pub len_is : len ≡ length (bytes_of packet)
  pub short : length room < len

-- the packet's bytes are at the beginning of the room
pub record CopiedOut (i len : ℕ) (before after : Bytes) (old new : Worked) : Type 0 where
  pub packet : List Buffer
  pub there : IsAt old i packet
  pub len_is : len ≡ length (bytes_of packet)
  pub copied : after ≡ bytes_of packet ++ drop (length (bytes_of packet)) before
  pub same : new ≡ old

-- the packet's byte at this place is `byte`
pub record ReadByte (i at byte : ℕ) (old new : Worked) : Type 0 where
  pub packet : List Buffer
  pub there : IsAt old i packet
  pub within : at < length (bytes_of packet)
  pub byte_is : byte ≡ slice_index (bytes_of packet) at
  pub same : new ≡ old

-- the list has no packet at this place, or the packet has no such byte
abbrev pub HasNoByte : ℕ → ℕ → List (List Buffer) → Type 0
HasNoByte i at list = (packet : List Buffer) → slice_get list i ≡ Some packet → length (bytes_of packet) ≤ at

-- the byte of this packet in the list was replaced in place: each buffer keeps its number and its length
pub record SetIn (i at byte : ℕ) (old new : List (List Buffer)) : Type 0 where
  pub before : List Buffer
  pub after : List Buffer
  pub there : slice_get old i ≡ Some before
  pub within : at < length (bytes_of before)
  pub bytes : bytes_of after ≡ slice_set (bytes_of before) at byte
  pub shape : map shape_of after ≡ map shape_of before
  pub list : new ≡ slice_set old i after

pub record WroteByte (i at byte : ℕ) (old new : Worked) : Type 0 where
  pub set : SetIn i at byte old.packets new.packets
  pub stash : new.stash ≡ old.stash

-- the packet is removed, and its buffers are in the stash again
pub record Released (i : ℕ) (old new : Worked) : Type 0 where
  pub packet : List Buffer
  pub there : IsAt old i packet
  pub list : new.packets ≡ remove old.packets i
  pub stash : new.stash ≡ reverse (numbers_of packet) ++ old.stash

-- the packet is removed, and is the last of another worker
pub record MovedPacket (i : ℕ) (from to from' to' : Worked) : Type 0 where
  pub packet : List Buffer
  pub there : IsAt from i packet
  pub list : from'.packets ≡ remove from.packets i
  pub behind : to'.packets ≡ to.packets ++ packet ∷ []
  pub stashes : (from'.stash ≡ from.stash) × (to'.stash ≡ to.stash)

-- the packet at this place has more buffers than the stash has room for
pub record IsCrowded (i : ℕ) (w : Worked) : Type 0 where
  pub packet : List Buffer
  pub there : IsAt w i packet
  pub many : STASH_BUFFERS < length w.stash + length packet

-- ---- the results of calls, and their steps

-- 1: the packet was made; 0: there is no place for it; 2: no frame has this length
abbrev pub TriedPut : ℕ → Bytes → Worked → Worked → Type 0
TriedPut zero frame old new = HasNoPlace frame old × (new ≡ old)
TriedPut (suc zero) frame old new = PutFrame frame old new
TriedPut (suc (suc zero)) frame old new = (¬ HasFrameLength frame) × (new ≡ old)
TriedPut _ frame old new = ⊥

-- 1: the packet was copied; 0: there is none; 4: the room is too small
abbrev pub TriedCopy : ℕ → ℕ → ℕ → Bytes → Bytes → Worked → Worked → Type 0
TriedCopy zero i len before after old new = IsAbsent i old × (new ≡ old) × (after ≡ before)
TriedCopy (suc zero) i len before after old new = CopiedOut i len before after old new
TriedCopy (suc (suc (suc (suc zero)))) i len before after old new = IsTooShort i len before old × (new ≡ old) × (after ≡ before)
TriedCopy _ i len before after old new = ⊥

-- 1: the byte was read; 0: there is none
abbrev pub TriedRead : ℕ → ℕ → ℕ → ℕ → Worked → Worked → Type 0
TriedRead zero i at byte old new = HasNoByte i at old.packets × (new ≡ old)
TriedRead (suc zero) i at byte old new = ReadByte i at byte old new
TriedRead _ i at byte old new = ⊥

-- the numbers of packets and of empty buffers
pub record Counted (packets buffers : ℕ) (old new : Worked) : Type 0 where
  pub packets_are : packets ≡ length old.packets
  pub buffers_are : buffers ≡ length old.stash
  pub same : new ≡ old

-- 1: the byte was replaced; 0: there is none
abbrev pub TriedTouch : ℕ → ℕ → ℕ → ℕ → Worked → Worked → Type 0
TriedTouch zero i at byte old new = HasNoByte i at old.packets × (new ≡ old)
TriedTouch (suc zero) i at byte old new = WroteByte i at byte old new
TriedTouch _ i at byte old new = ⊥

-- 1: the packet is removed; 0: there is none; 2: the stash has no room for its buffers
abbrev pub TriedRelease : ℕ → ℕ → Worked → Worked → Type 0
TriedRelease zero i old new = IsAbsent i old × (new ≡ old)
TriedRelease (suc zero) i old new = Released i old new
TriedRelease (suc (suc zero)) i old new = IsCrowded i old × (new ≡ old)
TriedRelease _ i old new = ⊥

-- 1: the packet was moved; 0: there is none, or the other worker has as many as there may be
abbrev pub TriedMove : ℕ → ℕ → Worked → Worked → Worked → Worked → Type 0
TriedMove zero i from to from' to' = (IsAbsent i from ⊎ (length to.packets ≡ MOST_BATCH)) × (from' ≡ from) × (to' ≡ to)
TriedMove (suc zero) i from to from' to' = MovedPacket i from to from' to'
TriedMove _ i from to from' to' = ⊥

-- the length and the number of buffers of the packet at this place
pub record Measured (i len segments : ℕ) (old new : Worked) : Type 0 where
  pub packet : List Buffer
  pub there : IsAt old i packet
  pub len_is : len ≡ length (bytes_of packet)
  pub segments_are : segments ≡ length packet
  pub same : new ≡ old

-- 1: the packet was measured; 0: there is none
abbrev pub TriedMeasure : ℕ → ℕ → ℕ → ℕ → Worked → Worked → Type 0
TriedMeasure zero i len segments old new = IsAbsent i old × (new ≡ old)
TriedMeasure (suc zero) i len segments old new = Measured i len segments old new
TriedMeasure _ i len segments old new = ⊥

-- 1: these were counted
abbrev pub TriedCount : ℕ → ℕ → ℕ → Worked → Worked → Type 0
TriedCount (suc zero) packets buffers old new = Counted packets buffers old new
TriedCount _ packets buffers old new = ⊥
