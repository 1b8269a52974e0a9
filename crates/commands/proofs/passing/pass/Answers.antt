use Rattle.std.proofs.Common.{◌∙◌, ap}
use Rattle.std.proofs.lemmas.Result.{err_from_is_err_and}
use Rattle.std.specs.Prelude.{Err}
use Rattle.commands.proofs.Passed.{has_passed}
use Rattle.commands.proofs.Unmade.{ring_unmade}
use Rattle.commands.proofs.passing.pass.Goals as goal

pub returns-clause-passed : goal.returns-clause-passed
returns-clause-passed g c =
    let ends = c.in_ok-reception.ensures in
    let met = c.meet_rx.ensures in
    rw (met.same_driver, met.same_controller) (has_passed _ _ _ _ _ ends.driver ends.controller met.lawful)

pub returns-in_err-ring-clause-refused : goal.returns-in_err-ring-clause-refused
returns-in_err-ring-clause-refused g c =
    let p = err_from_is_err_and c.from_residual.result c.from_residual.ensures.1 in
    rw (p.1, p.2) (ring_unmade c.in_err-ring.field-0.0 (λ e. c.new.ensures.refused.0 (c.in_err-ring.was ∙ ap Err e)))
