use Rattle.std.proofs.Common.{◌≡◌}
use Rattle.shared_ring.specs.Ends.{controller_of}
use Rattle.ring_bench.specs.Enabling.{CanServe}
use Rattle.ring_bench.proofs.kit.enabling.answer_enabling.Given as goal

abbrev pub invariant-loop : goal.invariant-loop
invariant-loop g l = record {
  can : CanServe (g.E.Ring.SharedRing.table l.ring) (controller_of g.R.Direction.form (g.E.ControllerEnd.side l.controller));
  way : (g.E.ControllerEnd.side l.controller).completion ≡ (g.E.ControllerEnd.side l.initial.controller).completion;
}
