use Rattle.teams.proofs.Keeps.{meets}
use Rattle.teams.proofs.rule.may_meet.Goals as goal

pub returns : goal.returns
returns g = meets _ _ _ _
