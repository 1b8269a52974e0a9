use Rattle.poll82599_c.proofs.Shaping.{touched_whole}
use Rattle.poll82599_c.proofs.batches.packets.Packets.touch.Goals as goal

pub invariant_of-self : goal.invariant_of-self
invariant_of-self c =
    touched_whole c.args.i c.args.at c.args.byte c.self.inside.list.items c.as_mut_slice.result.now c.set_in.new.packets c.as_mut_slice.ensures.value (c.set_in.ensures.step c.if-set_in.true) c.self.invariant
