use Rattle.counters.proofs.Rises.{opens}
use Rattle.counters.proofs.rule.may_open.Goals as goal

pub returns : goal.returns
returns g c = opens g.T.Words.words g.T.Snapshot.lawful _ _ c.requires.opening c.requires.lawful
