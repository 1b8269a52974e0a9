use Rattle.std.proofs.Common.{rules}
use Rattle.std.specs.String.{string_bytes}
use Rattle.c_data.proofs.Printing.{printed_there}
use Rattle.c_data.proofs.moves.poll82599_moves.Goals as goal

pub returns-else-page-bytes-clause-printed : goal.returns-else-page-bytes-clause-printed
returns-else-page-bytes-clause-printed c = λ done.
    let d = c.in-Ok.ensures.done in
    printed_there _ _ _ _ _ _ _ (string_bytes c.in-Ok.printed) c.plan_read.ensures d.1 d.2 (search rules) c.overwrite.ensures
