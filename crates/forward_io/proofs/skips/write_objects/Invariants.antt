use Rattle.std.proofs.Common.{◌≡◌, ◌+◌, ◌++◌, drop}
use Rattle.std.specs.String.{string_bytes}
use Rattle.forward_io.specs.Skips.{skipped_objects}
use Rattle.forward_io.proofs.skips.write_objects.Given as goal

abbrev pub invariant-loop-at : goal.invariant-loop-at
invariant-loop-at l = string_bytes l.text ++ skipped_objects (l.at + 1) (drop l.at l.skipped) ≡ string_bytes l.initial.text ++ skipped_objects 1 l.skipped
