-- So many lines are good, and these are left.
use Rattle.std.proofs.Common.{◌+◌, ◌≤◌, length}
use Rattle.text_lines.specs.Parts.{later_parts}
use Rattle.text_lines.proofs.Cuts.{left_len}
use Rattle.commands.proofs.Replaying.{GoodSoFar}
use Rattle.commands.proofs.replay.faulty_line.Given as goal

abbrev pub invariant-loop-rest : goal.invariant-loop-rest
invariant-loop-rest l = record {
  good : GoodSoFar l.text l.number (later_parts 10 l.rest);
  lines : l.number + left_len l.rest ≤ length l.text + 1;
}

abbrev pub decreases-loop-rest : goal.decreases-loop-rest
decreases-loop-rest l = left_len l.rest
