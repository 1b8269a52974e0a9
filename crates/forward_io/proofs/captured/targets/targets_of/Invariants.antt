use Rattle.std.proofs.Common.{◌≡◌, length}
use Rattle.forward_io.proofs.captured.targets.targets_of.Given as goal

abbrev pub invariant-loop-at : goal.invariant-loop-at
invariant-loop-at g l = length l.targets.items ≡ l.at
