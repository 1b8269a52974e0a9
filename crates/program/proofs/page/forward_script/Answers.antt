use Rattle.std.proofs.Common.{refl, rules}
use Rattle.std.proofs.lemmas.Result.{err_from_is_err_and}
use Rattle.teams.specs.declared.gate.Open.{Open}
use Rattle.settings.specs.Configs.{FitsIn}
use Rattle.program.proofs.Refusing.{fits-then, unrun}
use Rattle.program.proofs.page.forward_script.Goals as goal

pub returns-in_err-forward-clause-refused : goal.returns-in_err-forward-clause-refused
returns-in_err-forward-clause-refused g c =
    let p = err_from_is_err_and c.from_residual.result c.from_residual.ensures.1 in
    rw (p.1, p.2) (
      _,
      refl,
      unrun c.args.config.now c.args.script.now _
          c.in_err-forward.ensures.config.0 c.in_err-forward.ensures.fits {G = Open} (record {}) c.in_err-forward.ensures.halted,
    )

pub returns-clause-report : goal.returns-clause-report
returns-clause-report g c = record {
  fits = fits-then c.in_ok-forward.field-0 (FitsIn c.args.script.now c.args.config.now) c.in_ok-forward.ensures.fits;
  count = search rules;
  reports = search rules;
}
