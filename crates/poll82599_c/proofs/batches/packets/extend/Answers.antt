-- A packet with one more buffer is still a packet.
use Rattle.std.proofs.Common.{rules}
use Rattle.poll82599_c.proofs.Packing.{packet_grown}
use Rattle.poll82599_c.proofs.batches.packets.extend.Goals as goal

pub returns-clause-whole : goal.returns-clause-whole
returns-clause-whole c =
    let p = c.push_piece in
    packet_grown c.args.bytes.now c.args.packet.now c.args.stash.now p.new.packet p.new.stash p.ensures (search rules) (search rules) (search rules) c.requires.whole
