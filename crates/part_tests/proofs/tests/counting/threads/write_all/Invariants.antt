use Rattle.std.proofs.Common.{◌≡◌, ◌*◌}
use Rattle.part_tests.proofs.tests.counting.threads.write_all.Given as goal

-- the numbers after so many writes were written last
abbrev pub invariant-loop-writes : goal.invariant-loop-writes
invariant-loop-writes g l = record {
  own : l.pen.cell ≡ l.cell;
  last : l.pen.last ≡ record { offered = 6 * l.writes; stored = 3 * l.writes; dropped = 2 * l.writes; oversize = l.writes };
}
