use Rattle.std.proofs.Common.{subst, sym}
use Rattle.std.specs.Prelude.{All}
use Rattle.buffer_pool.specs.Packed.{IsPacket}
use Rattle.poll82599_c.proofs.Shaping.{All-remove}
use Rattle.poll82599_c.proofs.batches.packets.Packets.release.Goals as goal

pub invariant_of-self : goal.invariant_of-self
invariant_of-self c = subst (All IsPacket) (sym c.remove-packet.ensures.items) (All-remove IsPacket c.self.inside.list.items c.args.i c.self.invariant)
