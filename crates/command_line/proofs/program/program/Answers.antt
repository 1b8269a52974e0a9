use Rattle.command_line.proofs.Built.{program_is}
use Rattle.command_line.proofs.program.program.Goals as goal

pub returns : goal.returns
returns c = program_is _ _ _ c.second.ensures c.beginning.ensures c.joined.ensures
