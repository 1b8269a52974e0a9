use Rattle.std.proofs.Common.{◌+◌, arith}
use Rattle.flows.proofs.Meets.{concluded}
use Rattle.flows.proofs.concluding.conclude.Goals as goal

pub returns-clause-report : goal.returns-clause-report
returns-clause-report g c =
    let r = c.meet_rx.ensures in let t = c.meet_tx.ensures in
    concluded g.sides.0 g.sides.1 c.args.from.now c.args.to.now c.args.driver c.args.controller c.requires.0.0 c.requires.0.1 c.requires.1.1.0 c.requires.1.1.1 r.quiet r.lawful t.lawful r.left t.left r.drained t.all
    (c.from.result + c.from-2.result) (let a = c.from.ensures in let b = c.from-2.ensures in omega (arith, a, b))
