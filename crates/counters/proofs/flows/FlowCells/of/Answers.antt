use Rattle.std.proofs.Common.{ℕ, ◌+◌, ap, ◌∙◌}
use Rattle.counters.specs.Paired.{IsFresh}
use Rattle.counters.proofs.Pairs.{pens_of, zip_push}
use Rattle.counters.proofs.flows.FlowCells.of.Goals as goal

pub loop-preserved : goal.loop-preserved
loop-preserved c =
    let was = c.loop.invariant in
    let cells = c.push_reserved.ensures in
    let pens = c.push_reserved-in-loop.ensures in
    let more = zip_push IsFresh c.loop.cells.items c.loop.pens.items c.in_ok-flow.flow c.in_ok-flow.its_pens was.paired c.in_ok-flow.ensures.pens in
    record {
      paired = rw cells.items (rw pens.items more);
      cells = cells.len ∙ ap (λ (n : ℕ). n + 1) was.cells;
      pens = pens.len ∙ ap (λ (n : ℕ). n + 1) was.pens;
      room = cells.capacity ∙ was.room;
      pen_room = pens.capacity ∙ was.pen_room;
    }

pub returns-clause-own : goal.returns-clause-own
returns-clause-own c = pens_of _ _ c.loop.invariant.paired
