-- So many moves are written, and these lines are left.
use Rattle.std.proofs.Common.{◌+◌, ◌≤◌, length}
use Rattle.std.specs.String.{string_bytes}
use Rattle.text_lines.specs.Parts.{later_parts}
use Rattle.text_lines.proofs.Cuts.{left_len}
use Rattle.commands.proofs.Replaying.{PageSoFar}
use Rattle.commands.proofs.replay.page_of.Given as goal

abbrev pub invariant-loop-rest : goal.invariant-loop-rest
invariant-loop-rest l = record {
  page : PageSoFar l.shown l.text (string_bytes l.page) l.made l.read l.last (later_parts 10 l.rest) l.initial.queues l.queues;
  few : l.made ≤ l.read;
  lines : l.read + left_len l.rest ≤ length l.text + 1;
}

abbrev pub decreases-loop-rest : goal.decreases-loop-rest
decreases-loop-rest l = left_len l.rest
