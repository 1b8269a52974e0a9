use Rattle.text_lines.proofs.Cuts.{left_len}
use Rattle.forward_io.proofs.explaining.faulty_script.fields_of.Given as goal

abbrev pub decreases-loop-rest : goal.decreases-loop-rest
decreases-loop-rest l = left_len l.rest
