use Rattle.teams.proofs.Keeps.{leaves}
use Rattle.teams.proofs.rule.may_leave.Goals as goal

pub returns : goal.returns
returns g = leaves _ _
