use Rattle.teams.proofs.Keeps.{opens}
use Rattle.teams.proofs.rule.may_open.Goals as goal

pub returns : goal.returns
returns g = opens _ g.requires
