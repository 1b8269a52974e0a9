use Rattle.teams.proofs.Keeps.{parts}
use Rattle.teams.proofs.rule.may_part.Goals as goal

pub returns : goal.returns
returns g = parts _ _ g.requires
