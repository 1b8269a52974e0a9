use Rattle.std.proofs.lemmas.Result.{IfOk-weaker}
use Rattle.command_line.proofs.Built.{joins}
use Rattle.command_line.proofs.building.having.Goals as goal

pub returns : goal.returns
returns c = IfOk-weaker c.subcommand.result _ _ (λ new adds. joins _ _ _ _ _ _ new c.in_ok-program.was c.in_ok-command.was adds.shape) c.subcommand.ensures
