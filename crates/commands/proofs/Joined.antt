-- The bytes of a packet's segments, one segment's behind the other's.
use Rattle.std.proofs.Common.{◌≡◌, List, [], ◌∷◌, ◌++◌, map, ap, refl}
use Rattle.std.specs.List.{concat}
use Rattle.buffer_pool.specs.Buffer.{Buffer}
use Rattle.buffer_pool.specs.Packed.{bytes_of}

pub concat-segments : (bufs : List Buffer) → concat (map (λ b. b.bytes) bufs) ≡ bytes_of bufs
concat-segments [] = refl
concat-segments (b ∷ bufs) = ap (λ l. b.bytes ++ l) (concat-segments bufs)
