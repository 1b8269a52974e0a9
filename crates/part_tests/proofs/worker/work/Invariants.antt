use Rattle.std.proofs.Common.{◌≡◌, []}
use Rattle.pool.specs.Owned.{IsOf}
use Rattle.part_tests.proofs.worker.work.Given as goal

abbrev pub invariant-loop-turn : goal.invariant-loop-turn
invariant-loop-turn g l = record {
  pool : IsOf l.pool l.pass;
  share : l.pass.hand.share ≡ l.fn.pass.hand.share;
  idle : l.pass.hand.held ≡ [];
  stash : l.stash ≡ [];
}
