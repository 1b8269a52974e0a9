use Rattle.std.proofs.Common.{◌≡◌}
use Rattle.part_bench.proofs.counting.measured.write_all.Given as goal

-- what was written last are the numbers after so many frames
abbrev pub invariant-loop-written : goal.invariant-loop-written
invariant-loop-written g l = record {
  own : l.pen.cell ≡ l.cell;
  last : l.pen.last ≡ record { offered = l.written; stored = l.written; dropped = 0; oversize = 0 };
}
