use Rattle.std.proofs.Common.{◌≡◌}
use Rattle.examples.proofs.watched.watch.Given as goal

abbrev pub invariant-loop : goal.invariant-loop
invariant-loop g l = record {
  own : l.pass.cell ≡ l.cell;
}
