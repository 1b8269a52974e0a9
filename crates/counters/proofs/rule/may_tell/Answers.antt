use Rattle.counters.proofs.Rises.{gives}
use Rattle.counters.proofs.rule.may_tell.Goals as goal

pub returns : goal.returns
returns g c = gives g.T.Words.words g.T.Snapshot.lawful _ _
