use Rattle.std.proofs.Common.{◌≡◌, ◌++◌}
use Rattle.std.specs.List.{concat}
use Rattle.buffer_pool.specs.Packed.{bytes_of}
use Rattle.commands.proofs.once.joined.Given as goal

abbrev pub invariant-loop-segment : goal.invariant-loop-segment
invariant-loop-segment l = l.bytes.items ++ concat l.segment-iterator ≡ bytes_of l.packet
