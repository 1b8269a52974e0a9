use Rattle.std.proofs.Common.{◌≡◌, ◌++◌, drop}
use Rattle.forward_io.proofs.captured.script.push_copies.Given as goal

abbrev pub invariant-loop-frame : goal.invariant-loop-frame
invariant-loop-frame l = l.frames.items ++ drop l.frame-index l.more ≡ l.initial.frames.items ++ l.more
