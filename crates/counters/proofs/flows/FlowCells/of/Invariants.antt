use Rattle.std.proofs.Common.{◌≡◌, vec_len, vec_capacity}
use Rattle.counters.specs.Paired.{ArePaired}
use Rattle.counters.proofs.flows.FlowCells.of.Given as goal

-- the flows so far are there, and there is room for all
abbrev pub invariant-loop : goal.invariant-loop
invariant-loop l = record {
  paired : ArePaired l.cells.items l.pens.items;
  cells : vec_len l.cells ≡ l.counter;
  pens : vec_len l.pens ≡ l.counter;
  room : vec_capacity l.cells ≡ l.count;
  pen_room : vec_capacity l.pens ≡ l.count;
}
