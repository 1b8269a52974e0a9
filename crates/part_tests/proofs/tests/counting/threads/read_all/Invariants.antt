use Rattle.std.proofs.Common.{◌≡◌}
use Rattle.part_tests.proofs.tests.counting.threads.read_all.Given as goal

abbrev pub invariant-loop : goal.invariant-loop
invariant-loop g l = record {
  own : l.pass.cell ≡ l.cell;
}
