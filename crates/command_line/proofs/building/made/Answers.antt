use Rattle.command_line.proofs.Built.{all-params, one-more}
use Rattle.command_line.proofs.building.made.Goals as goal

pub loop-param-preserved : goal.loop-param-preserved
loop-param-preserved c =
    one-more c.args.entry.now.name.now c.args.entry.now.params.now c.loop-param.param-index _ _ c.loop-param.command c.with-command.result c.loop-param-test.true
    c.loop-param.invariant c.arg.ensures.rule c.with-command.ensures

pub returns : goal.returns
returns c =
    all-params c.args.entry.now.name.now c.args.entry.now.params.now c.loop-param.param-index c.loop-param.command c.loop-param-test.false c.loop-param.invariant
