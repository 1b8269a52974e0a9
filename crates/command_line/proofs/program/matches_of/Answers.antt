use Rattle.command_line.proofs.Built.{parsed_by, unbuilt}
use Rattle.command_line.proofs.program.matches_of.Goals as goal

pub returns-in_err-program : goal.returns-in_err-program
returns-in_err-program c = unbuilt _ _ c.from_residual.ensures.1

pub returns : goal.returns
returns c =
    let parsed = c.try_get_matches_from.ensures in
    parsed_by _ _ _ c.in_ok-program.ensures parsed.matches parsed.passes parsed.kinds
