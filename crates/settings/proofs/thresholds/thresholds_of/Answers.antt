-- Each field has the value of its name.
use Rattle.settings.proofs.Fields.{three-values}
use Rattle.settings.proofs.thresholds.thresholds_of.Goals as goal

pub returns : goal.returns
returns c t = three-values _ _ _ _ _ _ t c.in_ok-refill.ensures c.in_ok-report.ensures c.in_ok-clean.ensures
