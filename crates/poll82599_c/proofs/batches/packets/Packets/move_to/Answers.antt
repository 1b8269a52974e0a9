-- Both lists contain packets only, as before.
use Rattle.std.proofs.Common.{◌<◌, rules, length, subst, sym, refl}
use Rattle.std.specs.Prelude.{All}
use Rattle.std.proofs.lemmas.List.Elements.{All-push}
use Rattle.std.proofs.lemmas.Option.{slice_get_read}
use Rattle.buffer_pool.specs.Packed.{IsPacket}
use Rattle.poll82599_c.proofs.Shaping.{All-remove, packet-there}
use Rattle.poll82599_c.proofs.batches.packets.Packets.move_to.Goals as goal

pub invariant_of-self : goal.invariant_of-self
invariant_of-self c = subst (All IsPacket) (sym c.remove-moved.ensures.items) (All-remove IsPacket c.self.inside.list.items c.args.i c.self.invariant)

pub invariant_of-other : goal.invariant_of-other
invariant_of-other c =
    let items = c.self.inside.list.items in
    let within : c.args.i < length items = search rules in
    let there = slice_get_read items (length items) c.args.i c.remove-moved.result refl within c.remove-moved.ensures.value in
    let whole = packet-there items c.args.i c.remove-moved.result there c.self.invariant in
    subst (All IsPacket) (sym c.push.ensures.items) (All-push IsPacket c.other.inside.list.items c.remove-moved.result c.other.invariant whole)

pub returns : goal.returns
returns c =
    let items = c.self.inside.list.items in
    let within : c.args.i < length items = search rules in
    record {
      step = rw (← c.self.view_is, ← c.other.view_is) (record {
        packet = c.remove-moved.result;
        there = slice_get_read items (length items) c.args.i c.remove-moved.result refl within c.remove-moved.ensures.value;
        list = c.remove-moved.ensures.items;
        behind = c.push.ensures.items;
        stashes = (refl, refl);
      });
    }
