use Rattle.std.proofs.Common.{◌∙◌, [], ap, arith}
use Rattle.forward_io.specs.Sums.{with_came, with_left}
use Rattle.forward_io.proofs.Totals.{came-more, left-more}
use Rattle.forward_io.proofs.sums.PortSums.of.Goals as goal

pub loop-flow-preserved : goal.loop-flow-preserved
loop-flow-preserved c =
    let flow = c.flow-item.result in
    c.with_came-sums.ensures ∙ ap (λ s. with_came s flow) c.loop-flow.invariant ∙ came-more c.args.came.now [] c.loop-flow.flow-index flow (omega arith) c.flow-item.is

pub loop-flow-2-preserved : goal.loop-flow-2-preserved
loop-flow-2-preserved c =
    let flow = c.flow-item-in-loop-flow-2.result in
    c.with_left-sums.ensures ∙ ap (λ s. with_left s flow) c.loop-flow-2.invariant ∙ left-more c.args.came.now c.args.left.now c.loop-flow-2.flow-index flow (omega arith) c.flow-item-in-loop-flow-2.is
