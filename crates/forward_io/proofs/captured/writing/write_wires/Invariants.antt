use Rattle.std.proofs.Common.{◌≡◌, length}
use Rattle.forward_io.proofs.captured.writing.write_wires.Given as goal

abbrev pub invariant-loop-at : goal.invariant-loop-at
invariant-loop-at g l = length l.parts.items ≡ l.at
