use Rattle.std.proofs.Common.{refl}
use Rattle.command_line.specs.CommandLine.{beginning_app}
use Rattle.command_line.proofs.Built.{made}
use Rattle.command_line.proofs.program.first.Goals as goal

pub returns : goal.returns
returns c = made beginning_app _ _ _ refl refl refl
