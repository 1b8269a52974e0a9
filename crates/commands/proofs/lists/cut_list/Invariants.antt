-- So many lines are read, of which none ends the list.
use Rattle.text_lines.proofs.Cuts.{left_len}
use Rattle.commands.proofs.Cutting.{CutSoFar}
use Rattle.commands.proofs.lists.cut_list.Given as goal

abbrev pub invariant-loop-rest : goal.invariant-loop-rest
invariant-loop-rest l = CutSoFar l.text l.has_moves l.rest

abbrev pub decreases-loop-rest : goal.decreases-loop-rest
decreases-loop-rest l = left_len l.rest
