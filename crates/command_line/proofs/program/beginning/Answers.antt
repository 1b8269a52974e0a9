use Rattle.command_line.specs.CommandLine.{bare_app}
use Rattle.command_line.proofs.Built.{beginning_is}
use Rattle.command_line.proofs.program.beginning.Goals as goal

pub returns : goal.returns
returns c = beginning_is _ _ c.first.ensures (c.joined.ensures bare_app c.bare.ensures)
