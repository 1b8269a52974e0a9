-- The last packet of the list is given, and what is held of the others stays.
use Rattle.std.proofs.Common.{◌∙◌, ◌++◌}
use Rattle.driver.specs.receive.Returns.{numbers_of}
use Rattle.driver.specs.transmit.Frames.{numbers_in}
use Rattle.buffer_accounting.proofs.Giving.{holds-on, holds-first, exchanged-more, exchanged-given, last-packet}
use Rattle.buffer_accounting.proofs.returning.give_packets.Goals as goal

pub give_packet-requires-clause-held : goal.give_packet-requires-clause-held
give_packet-requires-clause-held g c =
    let all = numbers_in c.args.packets.now.items in let rest = numbers_of c.in-Some.packet ++ numbers_in c.pop.new.self.items in
    holds-first c.loop-packet.pass.hand.held (numbers_of c.in-Some.packet) (numbers_in c.pop.new.self.items)
    (holds-on c.args.pass.now.hand.held all c.loop-packet.pass.hand.held rest
    (exchanged-more c.args.pass.now.hand.held all c.loop-packet.pass.hand.held (numbers_in c.loop-packet.packets.items) rest c.loop-packet.invariant.given
    (last-packet c.loop-packet.packets.items c.pop.new.self.items c.in-Some.packet c.in-Some.ensures.items)) c.requires.held)

pub loop-packet-preserved : goal.loop-packet-preserved
loop-packet-preserved g c =
    let all = numbers_in c.args.packets.now.items in let rest = numbers_of c.in-Some.packet ++ numbers_in c.pop.new.self.items in
    record {
      pool = c.give_packet.ensures.pool;
      share = c.give_packet.ensures.share ∙ c.loop-packet.invariant.share;
      given = exchanged-given c.args.pass.now.hand.held all c.loop-packet.pass.hand.held (numbers_of c.in-Some.packet) (numbers_in c.pop.new.self.items) c.give_packet.new.pass.hand.held
          (exchanged-more c.args.pass.now.hand.held all c.loop-packet.pass.hand.held (numbers_in c.loop-packet.packets.items) rest c.loop-packet.invariant.given
          (last-packet c.loop-packet.packets.items c.pop.new.self.items c.in-Some.packet c.in-Some.ensures.items)) c.give_packet.ensures.given;
    }
