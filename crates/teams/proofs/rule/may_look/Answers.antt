use Rattle.teams.proofs.Keeps.{looks}
use Rattle.teams.proofs.rule.may_look.Goals as goal

pub returns : goal.returns
returns g = looks _ _
