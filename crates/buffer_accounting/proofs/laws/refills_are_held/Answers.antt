use Rattle.buffer_accounting.proofs.Returns.{refills-held}
use Rattle.buffer_accounting.proofs.laws.refills_are_held.Goals as goal

pub returns : goal.returns
returns c = refills-held
