use Rattle.std.proofs.Common.{◌≡◌}
use Rattle.examples.proofs.two_threads.device_thread.serve.Given as goal

abbrev pub invariant-loop : goal.invariant-loop
invariant-loop g l = l.controller.table ≡ l.ring
