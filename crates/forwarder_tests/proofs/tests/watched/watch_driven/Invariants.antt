use Rattle.std.proofs.Common.{◌≡◌}
use Rattle.forwarder_tests.proofs.tests.watched.watch_driven.Given as goal

abbrev pub invariant-loop : goal.invariant-loop
invariant-loop g l = record {
  own : l.pass.cell ≡ l.cell;
}
