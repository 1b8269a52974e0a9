-- Buffers as segments: those of a packet, and those of an unfinished frame.
use Rattle.std.specs.Prelude.{◌≡◌, ℕ, ◌<◌, true, false, All, List, [], ◌∷◌, ◌++◌, length, map}
use Rattle.buffer_pool.specs.Buffer.{Buffer, buffer}
use Rattle.buffer_pool.specs.Packed.{IsPacket}
use Rattle.ring_model.specs.shared.Segments.{Segment, piece_of}
use Rattle.ring_model.specs.shared.Frames.{Bytes, unfinished}
use Rattle.rx_ring.specs.Ends.{DriverSide, taken}
use Rattle.rx_ring.specs.Calls.{segment}

-- The segments in these buffers, none of which ends its frame.
abbrev pub going_on : List Buffer → List (Segment Bytes)
going_on bufs = map (λ b. segment b false) bufs

-- The segments of a packet. The last one ends it.
abbrev pub segments_of : List Buffer → List (Segment Bytes)
segments_of [] = []
segments_of (b ∷ []) = segment b true ∷ []
segments_of (b ∷ c ∷ bufs) = segment b false ∷ segments_of (c ∷ bufs)

-- The segments of several packets, one packet after another.
abbrev pub segments_in : List (List Buffer) → List (Segment Bytes)
segments_in [] = []
segments_in (p ∷ ps) = segments_of p ++ segments_in ps

-- A whole packet of no more segments than a ring of `n` places can have posted.
pub record IsTaken (n : ℕ) (bufs : List Buffer) : Type 0 where
  pub packet : IsPacket bufs
  pub few : length bufs < n

-- A taken buffer: it has room, and bytes.
pub record HasSegment (b : Buffer) : Type 0 where
  pub real : b ≡ buffer b.number b.bytes
  pub some_bytes : 0 < length b.bytes

-- The chain is the frame that the taken segments have not ended.
pub record IsRest (d : DriverSide) (chain : List Buffer) : Type 0 where
  pub rest : unfinished piece_of (taken d) ≡ going_on chain
  pub each : All HasSegment chain
