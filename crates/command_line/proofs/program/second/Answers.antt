use Rattle.std.proofs.Common.{refl}
use Rattle.command_line.proofs.program.second.Goals as goal

pub returns : goal.returns
returns c = λ rings formats. refl
