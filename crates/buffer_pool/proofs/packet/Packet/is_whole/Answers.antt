use Rattle.std.proofs.Common.{◌≡◌, ◌≤◌, ℕ, List, length, subst, ap, arith}
use Rattle.limits.specs.declared.profile.TheConstants.{LEAST_FRAME, MOST_FRAME, MOST_SEGMENTS}
use borrow.Author.Tests.{leb-true, le-leb}
use Rattle.buffer_pool.specs.Buffer.{Buffer}
use Rattle.buffer_pool.specs.Chain.{IsChain, chained}
use Rattle.buffer_pool.specs.declared.chain.Chain.{Chain}
use Rattle.buffer_pool.specs.Packed.{IsPacket, bytes_of}
use Rattle.buffer_pool.proofs.Chains.{chain-whole}
use Rattle.buffer_pool.proofs.packet.Packet.is_whole.Goals as goal

pub returns-then-len-ge-LEAST_FRAME : goal.returns-then-len-ge-LEAST_FRAME
returns-then-len-ge-LEAST_FRAME c = (
  λ few. whole c.args.self.now c.self.inside.chain c.self.view_is c.self.invariant.chain
      (omega (arith, c.self.invariant.segments, c.self.invariant.few)) c.if-len-ge-LEAST_FRAME.true c.len-len.ensures (leb-true _ _ few),
  λ packet. le-leb _ _ (omega (arith, packet.few_bytes, c.len-len.ensures)),
)
  where
    whole : (bufs : List Buffer) (ch : Chain) → chained ch ≡ bufs → IsChain ch → length (chained ch) ≤ MOST_SEGMENTS → {len : ℕ} → LEAST_FRAME ≤ len
        → len ≡ length (bytes_of bufs) → len ≤ MOST_FRAME → IsPacket bufs
    whole bufs ch e h few {len} some_bytes long few_bytes =
        let same = ap (λ (bs : List Buffer). length (bytes_of bs)) e in
        subst IsPacket e (chain-whole ch h few (omega arith) (omega arith))
