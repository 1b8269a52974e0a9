-- The content of a `Packet`'s fields.
use Rattle.std.specs.Prelude.{◌≡◌, ◌≤◌, length}
use Rattle.limits.specs.declared.profile.TheConstants.{MOST_SEGMENTS}
use Rattle.buffer_pool.specs.Chain.{IsChain, chained}
use Rattle.buffer_pool.specs.Packed.{bytes_of}
use Rattle.buffer_pool.specs.declared.packet.Packet.TheInside.{Inside}

-- The buffers form a chain. Their number, and that of their bytes, are stored beside it.
pub record IsHung (p : Inside) : Type 0 where
  pub chain : IsChain p.chain
  pub segments : p.segments ≡ length (chained p.chain)
  pub len : p.len ≡ length (bytes_of (chained p.chain))
  pub few : p.segments ≤ MOST_SEGMENTS
