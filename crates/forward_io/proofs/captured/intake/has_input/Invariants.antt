use Rattle.std.proofs.Common.{◌≡◌, drop}
use Rattle.forward_io.specs.Intakes.{has_input}
use Rattle.forward_io.proofs.captured.intake.has_input.Given as goal

abbrev pub invariant-loop-source : goal.invariant-loop-source
invariant-loop-source l = has_input (drop l.source-index l.sources) ≡ has_input l.sources
