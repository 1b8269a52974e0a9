use Rattle.std.proofs.Common.{rules, arith}
use Rattle.pool.specs.Owned.{IsOf}
use Rattle.flows.specs.Driven.{driving_of}
use Rattle.flows.proofs.Holds.{took-more}
use Rattle.flows.proofs.FlowDrivers.{refilled}
use Rattle.flows.proofs.flow_drivers.FlowDrivers.refill.Goals as goal

pub returns-then-self-gt0-clause-equipped : goal.returns-then-self-gt0-clause-equipped
returns-then-self-gt0-clause-equipped g c =
    let k = c.args.flow_spec.now in let l = c.args.self.now in let r = c.refill in
    let pool : IsOf k.pool r.new.pass = search rules in refilled k l.pass r.new.pass (driving_of l) r.new.stash r.result c.requires pool r.ensures.moved

pub returns-then-self-gt0-clause-held : goal.returns-then-self-gt0-clause-held
returns-then-self-gt0-clause-held g c =
    let l = c.args.self.now in let r = c.refill in
    let more = took-more l.pass.hand.held r.new.pass.hand.held r.ensures.moved.numbers r.result r.ensures.moved.as_many r.ensures.moved.took.held in
    let some = r.ensures.at_most in omega (arith, more, some)
