use Rattle.std.proofs.Common.{⊎_elim, inr, subst}
use Rattle.std.specs.Prelude.{IfSome}
use Rattle.counters.specs.Paired.{ArePensOf}
use Rattle.settings.specs.Configs.{FitsIn}
use Rattle.counters.proofs.Pairs.{pens_of}
use Rattle.forwarder.proofs.Continuing.{as-many, shows-if}
use Rattle.forwarder.proofs.calls.forward_watched.Goals as goal

pub forward_with-requires-clause-pens : goal.forward_with-requires-clause-pens
forward_with-requires-clause-pens g c = λ κs lives x same.
    subst (λ o. IfSome o (λ w. ArePensOf w.cells.now w.pens.items)) same (pens_of c.args.cells.now c.args.pens.items c.requires.pens)

pub returns-clause-fits : goal.returns-clause-fits
returns-clause-fits g c = inr (⊎_elim (λ bad. cc bad) (λ (fits : FitsIn c.args.script.now c.args.config.now). fits) c.in_ok-pool.ensures.fits)

pub returns-clause-shown : goal.returns-clause-shown
returns-clause-shown g c =
    shows-if c.args.cells.now c.args.pens.items c.forward_with.result c.requires.pens (as-many c.args.cells.now c.forward_with.result c.requires.cells c.forward_with.ensures.flows) c.forward_with.ensures.shown
