use Rattle.std.proofs.Common.{rules}
use Rattle.pool.specs.Owned.{IsOf}
use Rattle.flows.specs.Holding.{all_of}
use Rattle.flows.specs.Driven.{IsEquipped, driving_of}
use Rattle.flows.proofs.Holds.{holds-part}
use Rattle.flows.proofs.FlowDrivers.{stash-at-hand, given-stash}
use Rattle.flows.proofs.flow_drivers.FlowDrivers.give_at_hand.Goals as goal

pub give_stash-requires-clause-held : goal.give_stash-requires-clause-held
give_stash-requires-clause-held g c =
    let l = c.drop_waiting.new.self in let equipped : IsEquipped c.args.flow_spec.now l.pass (driving_of l) = c.drop_waiting.ensures.equipped in
    holds-part l.pass.hand.held l.stash (all_of (driving_of l)) equipped.holds (stash-at-hand (driving_of l))

pub returns-clause-equipped : goal.returns-clause-equipped
returns-clause-equipped g c =
    let l = c.drop_waiting.new.self in let k = c.args.flow_spec.now in let p = c.give_stash in let pool : IsOf k.pool p.new.pass = search rules in
    given-stash k l.pass p.new.pass (driving_of l) p.new.stash p.ensures.none c.drop_waiting.ensures.equipped pool p.ensures.share p.ensures.kept
