-- A refusal of `replay` is one of the list's text.
use Rattle.std.proofs.Common.{inr, rules}
use Rattle.std.specs.Prelude.{IfErr}
use Rattle.std.proofs.lemmas.Result.{IfErr-weaker}
use Rattle.schedule_command.specs.Covers.{IsUnreplayed, NotPrinted, list_text}
use Rattle.schedule_command.proofs.covering.listing.list_of.Goals as goal

pub returns-in_err-more-clause-refused : goal.returns-in_err-more-clause-refused
returns-in_err-more-clause-refused c =
    let text = list_text c.args.list.now in
    let refuses : IfErr c.from_residual-in_err-more.result (IsUnreplayed c.args.scope text) = search rules in
    IfErr-weaker c.from_residual-in_err-more.result (IsUnreplayed c.args.scope text) (NotPrinted c.args.scope c.args.list.now) (λ e r. inr r) refuses
