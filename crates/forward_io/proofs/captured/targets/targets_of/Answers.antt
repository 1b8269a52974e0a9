use Rattle.std.proofs.Common.{inr, refl, rules}
use Rattle.forward_io.proofs.captured.targets.targets_of.Goals as goal

pub returns-in-Err-clause-refused : goal.returns-in-Err-clause-refused
returns-in-Err-clause-refused g c = inr (c.loop-at.at, search rules, refl, c.in-Err.ensures.refused)
