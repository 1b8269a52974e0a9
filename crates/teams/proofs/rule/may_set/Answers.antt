use Rattle.teams.proofs.Keeps.{sets}
use Rattle.teams.proofs.rule.may_set.Goals as goal

pub returns : goal.returns
returns g = sets _ _ _ g.requires.set g.requires.share
