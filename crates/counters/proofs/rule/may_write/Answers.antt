use Rattle.counters.proofs.Rises.{writes}
use Rattle.counters.proofs.rule.may_write.Goals as goal

pub returns : goal.returns
returns g c = writes g.T.Words.words g.T.Snapshot.lawful _ _ _ c.requires.writes c.requires.lawful c.requires.none_falls
