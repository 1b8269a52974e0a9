use Rattle.std.proofs.Common.{⊎_elim, inr}
use Rattle.settings.specs.Configs.{FitsIn}
use Rattle.forwarder.proofs.calls.forward.Goals as goal

pub returns-clause-fits : goal.returns-clause-fits
returns-clause-fits g c = inr (⊎_elim (λ bad. cc bad) (λ (fits : FitsIn c.args.script.now c.args.config.now). fits) c.in_ok-pool.ensures.fits)
