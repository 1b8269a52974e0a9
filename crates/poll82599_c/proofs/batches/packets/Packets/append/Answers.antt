-- The list has room for the packet that was removed from it, and contains packets only.
use Rattle.std.proofs.Common.{rules, subst, sym, arith}
use Rattle.std.specs.Prelude.{All}
use Rattle.std.proofs.lemmas.List.Elements.{All-push, All-take}
use Rattle.buffer_pool.specs.Packed.{IsPacket}
use Rattle.poll82599_c.proofs.batches.packets.Packets.append.Goals as goal

pub push-requires : goal.push-requires
push-requires c = (search rules, (let less = c.in-Some.ensures.len in let value = c.len.ensures.value in let fits = c.len.ensures.fits in omega (arith, less, value, fits)))

pub invariant_of-self : goal.invariant_of-self
invariant_of-self c =
    let items = c.self.inside.list.items in
    let others = subst (All IsPacket) (sym c.pop.ensures.rest) (All-take IsPacket _ items c.self.invariant) in
    subst (All IsPacket) (sym c.push.ensures.items) (All-push IsPacket c.pop.new.self.items c.extend-answer.new.packet others c.extend-answer.ensures.whole)
