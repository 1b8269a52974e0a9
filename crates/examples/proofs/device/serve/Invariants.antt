-- Each controller keeps its ring.
use Rattle.std.proofs.Common.{◌≡◌}
use Rattle.examples.proofs.device.serve.Given as goal

abbrev pub invariant-loop : goal.invariant-loop
invariant-loop l = record {
  receives : l.incoming.controller.end.table ≡ l.from;
  sends : l.outgoing.controller.table ≡ l.to;
}
