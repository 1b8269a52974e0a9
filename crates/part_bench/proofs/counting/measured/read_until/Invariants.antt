use Rattle.std.proofs.Common.{◌≡◌}
use Rattle.part_bench.proofs.counting.measured.read_until.Given as goal

abbrev pub invariant-loop : goal.invariant-loop
invariant-loop g l = record {
  own : l.pass.cell ≡ l.cell;
}
