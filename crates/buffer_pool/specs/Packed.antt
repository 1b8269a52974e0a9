-- The view of a `Packet` in contracts: the list of its buffers, in order.
use Rattle.std.specs.Prelude.{◌≡◌, ℕ, ◌<◌, ◌≤◌, List, [], ◌∷◌, ◌++◌, length, All}
use Rattle.limits.specs.declared.profile.TheConstants.{LEAST_FRAME, MOST_FRAME, MOST_SEGMENTS}
use Rattle.buffer_pool.specs.Buffer.{Buffer, buffer}

-- The bytes of these buffers, one buffer after another.
abbrev pub bytes_of : List Buffer → List ℕ
bytes_of [] = []
bytes_of (b ∷ bs) = b.bytes ++ bytes_of bs

-- A buffer without its bytes: its number, and how many bytes it has.
abbrev pub shape_of : Buffer → ℕ × ℕ
shape_of b = (b.number, length b.bytes)

-- Each of these buffers has room, so none is a blank.
abbrev pub AreReal : List Buffer → Type 0
AreReal bufs = All (λ b. b ≡ buffer b.number b.bytes) bufs

-- These buffers can form a packet.
pub record IsPacket (bufs : List Buffer) : Type 0 where
  pub some_segment : 0 < length bufs
  pub few_segments : length bufs ≤ MOST_SEGMENTS
  pub none_empty : All (λ b. 0 < length b.bytes) bufs
  pub some_bytes : LEAST_FRAME ≤ length (bytes_of bufs)
  pub few_bytes : length (bytes_of bufs) ≤ MOST_FRAME
