use Rattle.std.proofs.Common.{◌≡◌, [], take}
use Rattle.forward_io.specs.Objects.{sums_of}
use Rattle.forward_io.proofs.sums.PortSums.of.Given as goal

abbrev pub invariant-loop-flow : goal.invariant-loop-flow
invariant-loop-flow l = l.sums ≡ sums_of (take l.flow-index l.came) []

abbrev pub invariant-loop-flow-2 : goal.invariant-loop-flow-2
invariant-loop-flow-2 l = l.sums ≡ sums_of l.came (take l.flow-index l.left)
