use Rattle.std.proofs.Common.{◌∙◌, subst}
use Rattle.std.proofs.lemmas.Result.{err_from_is_err_and}
use Rattle.command_line.specs.CommandLine.{AreParsed}
use Rattle.command_line.proofs.CommandLine.{misuse_fails, misuse_not_taken}
use Rattle.command_line.proofs.ParsedCommands.{found, taken}
use Rattle.command_line.proofs.command.parsed.Goals as goal

-- ---- what the words say

pub returns-in_err-matches-clause-said : goal.returns-in_err-matches-clause-said
returns-in_err-matches-clause-said c saying says =
    let p = err_from_is_err_and c.from_residual.result c.from_residual.ensures.1 in
    let are = subst (AreParsed _) c.in_err-matches.was c.matches_of.ensures in
    rw (p.1, p.2) (are.passes (taken _ _ saying are.program says))

pub returns-in-Some-clause-said : goal.returns-in-Some-clause-said
returns-in-Some-clause-said c saying says =
    let are = subst (AreParsed _) c.in_ok-matches.was c.matches_of.ensures in
    let values = found _ _ saying are.program says in
    c.in-Some.ensures.said values.0 saying (are.rows ∙ values.1) values.2

pub returns-clause-said : goal.returns-clause-said
returns-clause-said c saying says =
    let are = subst (AreParsed _) c.in_ok-matches.was c.matches_of.ensures in
    let values = found _ _ saying are.program says in
    absurd (c.in-None.ensures.said values.0 saying (are.rows ∙ values.1) values.2)

-- ---- words that are a mistake

pub returns-in_err-matches-clause-misuse : goal.returns-in_err-matches-clause-misuse
returns-in_err-matches-clause-misuse c misuse =
    let p = err_from_is_err_and c.from_residual.result c.from_residual.ensures.1 in
    let are = subst (AreParsed _) c.in_err-matches.was c.matches_of.ensures in
    rw (p.1, p.2) (misuse_fails _ _ _ are.program misuse are.kinds)

pub returns-in-Some-clause-misuse : goal.returns-in-Some-clause-misuse
returns-in-Some-clause-misuse c misuse =
    let are = subst (AreParsed _) c.in_ok-matches.was c.matches_of.ensures in
    absurd (misuse_not_taken _ _ are.program misuse are.kinds)

pub returns-clause-misuse : goal.returns-clause-misuse
returns-clause-misuse c misuse =
    let are = subst (AreParsed _) c.in_ok-matches.was c.matches_of.ensures in
    absurd (misuse_not_taken _ _ are.program misuse are.kinds)
