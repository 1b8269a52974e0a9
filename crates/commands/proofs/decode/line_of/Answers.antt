-- The refusal of bytes that are no descriptor is the descriptor's.
use Rattle.std.proofs.Common.{refl, inr}
use Rattle.commands.proofs.decode.line_of.Goals as goal

pub returns-in-Err : goal.returns-in-Err
returns-in-Err g c = inr (c.in-Err.refused, refl, (c.in-Err.ensures.refused c.in-Err.refused).0 refl)
