-- How much of an unfinished frame an end has begun, and what may follow.
use Rattle.std.specs.Prelude.{◌≡◌, ℕ, ◌+◌, ◌<◌, ◌≤◌, Bool, true, List, length, Some, slice_get}
use Rattle.limits.specs.declared.profile.TheConstants.{BUFFER_BYTES, LEAST_FRAME, MOST_FRAME, MOST_SEGMENTS}
use Rattle.ring_model.specs.shared.Frames.{Piece, join, unfinished}
use Rattle.ring_model.specs.transmit.Ring.{carried}
use Rattle.tx_ring.specs.Records.{Posting}
use Rattle.poll82599_c.specs.declared.rings.partial_frame.PartialFrame.{PartialFrame}

-- the unfinished frame at the end of xs has this many segments and bytes
pub record IsBegun {X : Type 0} (carries : X → Piece) (xs : List X) (begun : PartialFrame) : Type 0 where
  pub segments_are : length (unfinished carries xs) ≡ begun.segments
  pub bytes_are : length (join carries (unfinished carries xs)) ≡ begun.bytes

-- In a ring of n places a segment of `len` bytes may follow, and end the frame if `eop`
pub record CanFollow (n : ℕ) (begun : PartialFrame) (len : ℕ) (eop : Bool) : Type 0 where
  pub some_bytes : 0 < len
  pub few_bytes : len ≤ BUFFER_BYTES
  pub segments : begun.segments < MOST_SEGMENTS
  pub descriptors : begun.segments + 1 < n
  pub most : begun.bytes + len ≤ MOST_FRAME
  pub least : eop ≡ true → LEAST_FRAME ≤ begun.bytes + len

-- The segment may be posted with these fields: only a frame's last segment asks for a report, and PAYLEN is the length
-- of the whole frame, which its bytes never exceed and reach at its end
pub record CanPost (n : ℕ) (begun : PartialFrame) (len : ℕ) (eop rs : Bool) (paylen : ℕ) : Type 0 where
  pub follow : CanFollow n begun len eop
  pub asks_at_end : rs ≡ true → eop ≡ true
  pub long_enough : LEAST_FRAME ≤ paylen
  pub short_enough : paylen ≤ MOST_FRAME
  pub within : begun.bytes + len ≤ paylen
  pub whole : eop ≡ true → begun.bytes + len ≡ paylen

-- the unfinished frame of a transmit ring has this many segments and bytes, and each of its descriptors has this PAYLEN
pub record IsPosting (ps : List Posting) (begun : PartialFrame) (paylen : ℕ) : Type 0 where
  pub counts : IsBegun carried ps begun
  pub same : (k : ℕ) (q : Posting) → slice_get (unfinished carried ps) k ≡ Some q → q.paylen ≡ paylen
