use Rattle.std.proofs.Common.{◌≡◌, take}
use Rattle.std.specs.Prelude.{IfOk}
use Rattle.clap.specs.Words.{App, app_of}
use Rattle.command_line.specs.Building.{IsJoined}
use Rattle.command_line.proofs.program.joined.Given as goal

abbrev pub invariant-loop-entry : goal.invariant-loop-entry
invariant-loop-entry l = (app : App) → IfOk l.fn.start (λ c. app_of c ≡ app) → IfOk l.program (IsJoined app (take l.entry-index l.entries))
