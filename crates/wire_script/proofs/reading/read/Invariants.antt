use Rattle.std.proofs.Common.{◌+◌, ◌≤◌, length}
use Rattle.text_lines.proofs.Cuts.{left_len}
use Rattle.text_lines.specs.Parts.{later_parts}
use Rattle.wire_script.specs.Script.{script_of}
use Rattle.wire_script.proofs.Steps.{Reads}
use Rattle.wire_script.proofs.reading.read.Given as goal

abbrev pub invariant-loop-rest : goal.invariant-loop-rest
invariant-loop-rest l = record {
  reads : Reads l.frames.items (l.line + 1) (later_parts 10 l.rest) (script_of l.text);
  lines : l.line + left_len l.rest ≤ length l.text + 1;
}

abbrev pub decreases-loop-rest : goal.decreases-loop-rest
decreases-loop-rest l = left_len l.rest
