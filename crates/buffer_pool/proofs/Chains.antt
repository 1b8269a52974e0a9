-- The bytes of the buffers of a chain.
use Rattle.std.proofs.Common.{◌≡◌, ℕ, zero, suc, ◌*◌, ◌<◌, ◌≤◌, All, List, [], ◌∷◌, ◌++◌, length, take, refl, sym, ap, ◌∙◌, arith, append_assoc, length-append, length-take}
use Rattle.limits.specs.declared.profile.TheConstants.{BUFFER_BYTES, LEAST_FRAME, MOST_FRAME, MOST_SEGMENTS}
use Rattle.buffer_pool.specs.declared.chain.Chain.{Chain}
use Rattle.buffer_pool.specs.declared.chain.Chain.TheVariants.{End, To'}
use Rattle.buffer_pool.specs.Buffer.{Buffer}
use Rattle.buffer_pool.specs.Chain.{IsChain, chained}
use Rattle.buffer_pool.specs.Packed.{AreReal, IsPacket, bytes_of}

pub bytes_of-append : (bs cs : List Buffer) → bytes_of (bs ++ cs) ≡ bytes_of bs ++ bytes_of cs
bytes_of-append [] cs = refl
bytes_of-append (b ∷ bs) cs = ap (λ (xs : List ℕ). b.bytes ++ xs) (bytes_of-append bs cs) ∙ sym (append_assoc b.bytes (bytes_of bs) (bytes_of cs))

-- no buffer of a chain has more bytes than it has room for
pub chain-fits : (c : Chain) → IsChain c → length (bytes_of (chained c)) ≤ BUFFER_BYTES * length (chained c)
chain-fits End h = omega arith
chain-fits (To' p room next) h =
    let here : length (take room.len room.bytes) ≤ BUFFER_BYTES = omega (arith, length-take room.len room.bytes, h.0.len) in
    omega (arith, chain-fits next h.2, length-append (take room.len room.bytes) (bytes_of (chained next)))

-- no buffer of a chain is empty
pub chain-none_empty : (c : Chain) → IsChain c → All (λ b. 0 < length b.bytes) (chained c)
chain-none_empty End h k d l = absurd (omega arith)
chain-none_empty (To' p room next) h zero d l = omega (arith, length-take room.len room.bytes, h.0.bytes, h.0.len, h.1)
chain-none_empty (To' p room next) h (suc k) d l = chain-none_empty next h.2 k d (omega arith)

-- nor is one a blank
pub chain-real : (c : Chain) → AreReal (chained c)
chain-real End k d l = absurd (omega arith)
chain-real (To' p room next) zero d l = refl
chain-real (To' p room next) (suc k) d l = chain-real next k d (omega arith)

pub chain-whole : (c : Chain) → IsChain c → length (chained c) ≤ MOST_SEGMENTS → LEAST_FRAME ≤ length (bytes_of (chained c)) → length (bytes_of (chained c)) ≤ MOST_FRAME
    → IsPacket (chained c)
chain-whole c h few some_bytes few_bytes = record {
  some_segment = some c some_bytes;
  few_segments = few;
  none_empty = chain-none_empty c h;
  some_bytes = some_bytes;
  few_bytes = few_bytes;
}
  where
    some : (d : Chain) → LEAST_FRAME ≤ length (bytes_of (chained d)) → 0 < length (chained d)
    some End l = absurd (omega arith)
    some (To' p room next) l = omega arith
