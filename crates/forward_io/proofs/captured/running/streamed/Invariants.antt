use Rattle.std.proofs.Common.{◌≡◌, drop}
use Rattle.requests.specs.Files.{streamed_port}
use Rattle.forward_io.proofs.captured.running.streamed.Given as goal

abbrev pub invariant-loop-at : goal.invariant-loop-at
invariant-loop-at l = streamed_port (drop l.at l.wires) ≡ streamed_port l.wires
