-- Which frames can be cut into pieces that fit a ring.
use Rattle.std.specs.Prelude.{ℕ, ◌<◌, ◌≤◌}
use Rattle.limits.specs.declared.profile.TheConstants.{BUFFER_BYTES, LEAST_FRAME, MOST_FRAME, MOST_SEGMENTS}
use Rattle.ring_model.specs.shared.Frames.{piece_count}

-- A frame of `len` bytes can be cut into pieces of `b` bytes and stored or posted in a ring of `n` places.
pub record CanCut (n b len : ℕ) : Type 0 where
  pub some_room : 0 < b
  pub room : b ≤ BUFFER_BYTES
  pub least : LEAST_FRAME ≤ len
  pub most : len ≤ MOST_FRAME
  pub segments : piece_count b len ≤ MOST_SEGMENTS
  pub descriptors : piece_count b len < n
