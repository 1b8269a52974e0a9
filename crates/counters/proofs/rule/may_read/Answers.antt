use Rattle.counters.proofs.Rises.{reads}
use Rattle.counters.proofs.rule.may_read.Goals as goal

pub returns : goal.returns
returns g c = reads g.T.Words.words g.T.Snapshot.lawful _ _
