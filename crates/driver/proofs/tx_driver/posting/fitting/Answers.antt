-- One packet more fits, or is the first that stays.
use Rattle.std.proofs.Common.{arith}
use Rattle.driver.proofs.transmit.Frames.{segment_count-take, needs_more}
use Rattle.driver.proofs.tx_driver.posting.fitting.Goals as goal

pub loop-count-preserved : goal.loop-count-preserved
loop-count-preserved c =
    let i = c.loop-count.invariant in
    let grew = segment_count-take c.args.packets.now c.loop-count.count c.index-packets-count.result c.loop-count-test.true c.index-packets-count.is in
    omega (arith, i, grew, c.segments-segments.ensures.value, c.if-left-segments.false)

pub returns-then-left-segments-clause-stays : goal.returns-then-left-segments-clause-stays
returns-then-left-segments-clause-stays c =
    let i = c.loop-count.invariant in
    needs_more c.args.packets.now c.loop-count.count c.index-packets-count.result c.loop-count-test.true c.index-packets-count.is _
    (omega (arith, i, c.segments-segments.ensures.value, c.if-left-segments.true))
