use Rattle.std.proofs.Common.{◌≡◌, ◌+◌, ◌≤◌, length}
use Rattle.text_lines.proofs.Cuts.{left_len}
use Rattle.text_lines.specs.Parts.{later_parts, lines_of}
use Rattle.forward_io.specs.Intakes.{frame_line}
use Rattle.forward_io.proofs.captured.script.frame_line.Given as goal

abbrev pub invariant-loop-rest : goal.invariant-loop-rest
invariant-loop-rest l = record {
  line : frame_line l.line l.left (later_parts 10 l.rest) ≡ frame_line 1 l.place (lines_of l.text);
  lines : l.line + left_len l.rest ≤ length l.text + 2;
}

abbrev pub decreases-loop-rest : goal.decreases-loop-rest
decreases-loop-rest l = left_len l.rest
