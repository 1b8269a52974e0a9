use Rattle.std.proofs.Common.{◌∙◌, Option, subst}
use Rattle.std.specs.Prelude.{IsSomeAnd}
use Rattle.std.proofs.lemmas.Result.{err_from_is_err_and}
use Rattle.command_line.specs.CommandLine.{AreParsed}
use Rattle.command_line.specs.FileWords.{HoldsFiles}
use Rattle.command_line.specs.declared.files.ForwardFiles.{ForwardFiles}
use Rattle.command_line.proofs.ForwardWords.{forward_found, forward_taken}
use Rattle.command_line.proofs.files.files_of.Goals as goal

pub returns-in_err-matches : goal.returns-in_err-matches
returns-in_err-matches c = λ config printing files says.
    let p = err_from_is_err_and c.from_residual.result c.from_residual.ensures.1 in
    let are = subst (AreParsed _) c.in_err-matches.was c.matches_of.ensures in
    rw (p.1, p.2) (are.passes (forward_taken _ _ config printing files are.program says))

pub returns-in-Some : goal.returns-in-Some
returns-in-Some c = λ config printing files says.
    let are = subst (AreParsed _) c.in_ok-matches.was c.matches_of.ensures in
    let forward = forward_found _ _ config printing files are.program says in
    subst (λ (o : Option ForwardFiles). IsSomeAnd o (λ held. HoldsFiles held files)) c.in-Some.is (c.in_ok-files.ensures forward.0 files (are.rows ∙ forward.1) forward.4 says.are_files)

pub returns : goal.returns
returns c = λ config printing files says.
    let are = subst (AreParsed _) c.in_ok-matches.was c.matches_of.ensures in
    let forward = forward_found _ _ config printing files are.program says in
    absurd (subst (λ (o : Option ForwardFiles). IsSomeAnd o (λ held. HoldsFiles held files)) c.in-None.is (c.in_ok-files.ensures forward.0 files (are.rows ∙ forward.1) forward.4 says.are_files))
