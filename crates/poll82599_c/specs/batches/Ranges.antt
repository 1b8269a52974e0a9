-- Ranges of a packet's bytes, as the exports read and replace them.
use Rattle.std.specs.Prelude.{◌≡◌, ℕ, zero, suc, ◌+◌, ◌<◌, ◌≤◌, ◌⊎◌, Some, List, [], ◌++◌, length, map, take, drop, slice_get, slice_set}
use Rattle.buffer_pool.specs.Buffer.{Buffer}
use Rattle.buffer_pool.specs.Packed.{bytes_of, shape_of}
use Rattle.ring_model.specs.shared.Frames.{Bytes}
use Rattle.poll82599_c.specs.batches.Packets.{IsAt, Worked}

-- these bytes in place of as many from `at` on
abbrev pub patched : ℕ → Bytes → Bytes → Bytes
patched at bytes old = take at old ++ (bytes ++ drop (length bytes) (drop at old))

-- these are the first bytes of the rest that lie in the buffer, behind the `skip` bytes that stay; all that are left, or all that fit
pub record PatchedHere (skip : ℕ) (rest : Bytes) (b b' : Buffer) (skip' : ℕ) (rest' : Bytes) : Type 0 where
  pub here : Bytes
  pub split : rest ≡ here ++ rest'
  pub fits : skip + length here ≤ length b.bytes
  pub ends : (rest' ≡ []) ⊎ (skip + length here ≡ length b.bytes)
  pub is : b' ≡ record b { bytes = patched skip here b.bytes }
  pub skips : skip' ≡ 0

-- the buffer lies before the range, or has its part of it
abbrev pub Overlaid : ℕ → Bytes → Buffer → Buffer → ℕ → Bytes → Type 0
Overlaid skip rest b b' skip' rest' = ((length b.bytes + skip' ≡ skip) × (rest' ≡ rest) × (b' ≡ b)) ⊎ PatchedHere skip rest b b' skip' rest'

-- the list has no packet at this place, or the packet ends before `at + count`
abbrev pub HasNoRange : ℕ → ℕ → ℕ → List (List Buffer) → Type 0
HasNoRange i at count list = (packet : List Buffer) → slice_get list i ≡ Some packet → length (bytes_of packet) < at + count

-- the room is filled with the packet's bytes from `at` on
pub record FilledRoom (i at : ℕ) (before after : Bytes) (w : Worked) : Type 0 where
  pub packet : List Buffer
  pub there : IsAt w i packet
  pub within : at + length before ≤ length (bytes_of packet)
  pub filled : after ≡ take (length before) (drop at (bytes_of packet))

-- the bytes of this packet in the list were replaced in place: each buffer keeps its number and its length
pub record PatchedIn (i at : ℕ) (bytes : Bytes) (old new : List (List Buffer)) : Type 0 where
  pub before : List Buffer
  pub after : List Buffer
  pub there : slice_get old i ≡ Some before
  pub within : at + length bytes ≤ length (bytes_of before)
  pub bytes_are : bytes_of after ≡ patched at bytes (bytes_of before)
  pub shape : map shape_of after ≡ map shape_of before
  pub list : new ≡ slice_set old i after

pub record WroteRange (i at : ℕ) (bytes : Bytes) (old new : Worked) : Type 0 where
  pub patched_in : PatchedIn i at bytes old.packets new.packets
  pub stash : new.stash ≡ old.stash

-- ---- the results of calls, and their steps

-- 1: the room is filled; 0: the packet has no such range
abbrev pub TriedReadRange : ℕ → ℕ → ℕ → Bytes → Bytes → Worked → Worked → Type 0
TriedReadRange zero i at before after old new = HasNoRange i at (length before) old.packets × (after ≡ before) × (new ≡ old)
TriedReadRange (suc zero) i at before after old new = FilledRoom i at before after old × (new ≡ old)
TriedReadRange _ i at before after old new = ⊥

-- 1: the bytes were replaced; 0: the packet has no such range
abbrev pub TriedWriteRange : ℕ → ℕ → ℕ → Bytes → Worked → Worked → Type 0
TriedWriteRange zero i at bytes old new = HasNoRange i at (length bytes) old.packets × (new ≡ old)
TriedWriteRange (suc zero) i at bytes old new = WroteRange i at bytes old new
TriedWriteRange _ i at bytes old new = ⊥
