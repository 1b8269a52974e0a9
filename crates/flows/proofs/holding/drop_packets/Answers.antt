use Rattle.std.proofs.Common.{[], ◌∷◌, ◌++◌, ◌≡◌, ◌∙◌, arith, rules}
use Rattle.driver.specs.transmit.Frames.{numbers_in}
use Rattle.flows.proofs.Holds.{keeps-on, holds-on, holds-last, drops-one}
use Rattle.flows.proofs.holding.drop_packets.Goals as goal

pub drop_packet-requires-clause-held : goal.drop_packet-requires-clause-held
drop_packet-requires-clause-held g c =
    let l = c.loop-packet in let split : l.packets.items ≡ c.pop.new.self.items ++ c.in-Some.packet ∷ [] = search rules in
    holds-last l.pass.hand.held l.stash l.packets.items c.pop.new.self.items c.in-Some.packet split
    (holds-on c.args.pass.now.hand.held (c.args.stash.now ++ numbers_in c.args.packets.now.items) l.pass.hand.held (l.stash ++ numbers_in l.packets.items) c.requires.held l.invariant.kept)

pub loop-packet-preserved : goal.loop-packet-preserved
loop-packet-preserved g c =
    let l = c.loop-packet in let held = c.args.pass.now.hand.held in let had = c.args.stash.now ++ numbers_in c.args.packets.now.items in
    let split : l.packets.items ≡ c.pop.new.self.items ++ c.in-Some.packet ∷ [] = search rules in record {
      pool = c.drop_packet.ensures.pool;
      share = c.drop_packet.ensures.share ∙ l.invariant.share;
      count = l.invariant.count;
      few = l.invariant.few;
      held = (let more = c.drop_packet.ensures.held in let so_far = l.invariant.held in omega (arith, more, so_far));
      kept = keeps-on held had l.pass.hand.held (l.stash ++ numbers_in l.packets.items) c.drop_packet.new.pass.hand.held (c.drop_packet.new.stash ++ numbers_in c.pop.new.self.items) l.invariant.kept
          (drops-one l.pass.hand.held c.drop_packet.new.pass.hand.held l.stash c.drop_packet.new.stash l.packets.items c.pop.new.self.items c.in-Some.packet split c.drop_packet.ensures.kept);
    }
