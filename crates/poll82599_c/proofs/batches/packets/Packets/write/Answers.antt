use Rattle.poll82599_c.proofs.Shaping.{patched_whole}
use Rattle.poll82599_c.proofs.batches.packets.Packets.write.Goals as goal

pub invariant_of-self : goal.invariant_of-self
invariant_of-self c =
    patched_whole c.args.i c.args.at c.args.bytes.now c.self.inside.list.items c.as_mut_slice.result.now c.patch_in.new.packets c.as_mut_slice.ensures.value
    (c.patch_in.ensures.step c.if-patch_in.true) c.self.invariant
