-- Buffers on the heap: a single one, or those of a packet, one after another.
use Rattle.std.specs.Prelude.{◌≡◌, ◌<◌, ◌≤◌, List, [], ◌∷◌, length, take}
use Rattle.limits.specs.declared.profile.TheConstants.{BUFFER_BYTES}
use Rattle.buffer_pool.specs.declared.chain.Chain.{Chain}
use Rattle.buffer_pool.specs.declared.chain.Chain.TheVariants.{End, To'}
use Rattle.buffer_pool.specs.declared.chain.Room.{Room}
use Rattle.buffer_pool.specs.Buffer.{Buffer, blank, buffer}

-- The buffer that callers see.
abbrev pub seen_room : Room → Buffer
seen_room room = buffer room.number (take room.len room.bytes)

-- The room has all its bytes, and the first `len` of them are the buffer's.
pub record IsRoom (room : Room) : Type 0 where
  pub bytes : length room.bytes ≡ BUFFER_BYTES
  pub len : room.len ≤ BUFFER_BYTES

-- A chain of at most one buffer, as callers see it. A blank has no room.
abbrev pub seen : Chain → Buffer
seen End = blank
seen (To' p room next) = seen_room room

abbrev pub IsBuffer : Chain → Type 0
IsBuffer End = Unit {0}
IsBuffer (To' p room next) = IsRoom room × (next ≡ End)

-- The buffers of a chain, the foremost first, none of them empty.
abbrev pub chained : Chain → List Buffer
chained End = []
chained (To' p room next) = seen_room room ∷ chained next

abbrev pub IsChain : Chain → Type 0
IsChain End = Unit {0}
IsChain (To' p room next) = IsRoom room × (0 < room.len) × IsChain next
