use Rattle.command_line.proofs.Built.{all-entries, begun, one-entry}
use Rattle.command_line.proofs.program.joined.Goals as goal

pub loop-entry-init : goal.loop-entry-init
loop-entry-init c = λ app is. begun app c.args.start is

pub loop-entry-preserved : goal.loop-entry-preserved
loop-entry-preserved c = λ app is.
    one-entry app c.args.entries.now c.loop-entry.entry-index _ c.loop-entry.program c.made.result c.having-program.result c.loop-entry-test.true
    (c.loop-entry.invariant app is) c.made.ensures c.having-program.ensures

pub returns : goal.returns
returns c = λ app is.
    all-entries app c.args.entries.now c.loop-entry.entry-index c.loop-entry.program c.loop-entry-test.false (c.loop-entry.invariant app is)
