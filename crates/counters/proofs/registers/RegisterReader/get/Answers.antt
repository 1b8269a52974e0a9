use Rattle.counters.proofs.Rises.{same_falls}
use Rattle.counters.proofs.registers.RegisterReader.get.Goals as goal

pub returns-then-count-at-clause-none_falls : goal.returns-then-count-at-clause-none_falls
returns-then-count-at-clause-none_falls c = same_falls _
