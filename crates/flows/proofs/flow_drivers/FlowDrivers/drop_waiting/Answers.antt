use Rattle.std.proofs.Common.{rules, ◌++◌}
use Rattle.pool.specs.Owned.{IsOf}
use Rattle.driver.specs.transmit.Frames.{numbers_in}
use Rattle.flows.specs.Holding.{all_of}
use Rattle.flows.specs.Driven.{driving_of}
use Rattle.flows.proofs.Holds.{holds-part}
use Rattle.flows.proofs.FlowDrivers.{at-hand, given-all}
use Rattle.flows.proofs.flow_drivers.FlowDrivers.drop_waiting.Goals as goal

pub drop_packets-requires-clause-held : goal.drop_packets-requires-clause-held
drop_packets-requires-clause-held g c =
    let l = c.args.self.now in holds-part l.pass.hand.held (l.stash ++ numbers_in l.packets.items) (all_of (driving_of l)) c.requires.equipped.holds (at-hand (driving_of l))

pub returns-clause-equipped : goal.returns-clause-equipped
returns-clause-equipped g c =
    let l = c.args.self.now in let d = c.drop_packets in let k = c.args.flow_spec.now in let pool : IsOf k.pool d.new.pass = search rules in
    given-all k l.pass d.new.pass (driving_of l) d.new.stash d.new.packets.items d.ensures.none c.requires.equipped pool d.ensures.share d.ensures.kept
