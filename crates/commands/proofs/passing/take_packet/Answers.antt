use Rattle.commands.proofs.Ends.{takes_packet}
use Rattle.commands.proofs.passing.take_packet.Goals as goal

pub returns-in-Some-pop : goal.returns-in-Some-pop
returns-in-Some-pop g c =
    takes_packet c.args.ring.now c.pop.new.self.items c.in-Some-pop.packet c.in-Ok.ensures.done.grew c.loop.invariant c.in-Some-pop.ensures.items
