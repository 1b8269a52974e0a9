use Rattle.std.proofs.Common.{◌≡◌}
use Rattle.ring_tests.proofs.tests.threads.played.store.Given as goal

abbrev pub invariant-loop : goal.invariant-loop
invariant-loop l = l.storer.controller.table ≡ l.ring
