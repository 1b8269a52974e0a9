-- The refusal of bytes that are no descriptor is the descriptor's.
use Rattle.std.proofs.Common.{refl, rules}
use Rattle.c_data.proofs.descriptors.tx_read_in.Goals as goal

pub returns-in-Err-clause-refused : goal.returns-in-Err-clause-refused
returns-in-Err-clause-refused c = record {
  why = c.in-Err.why;
  number = search rules;
  lowest = (c.in-Err.ensures.refused c.in-Err.why).0 refl;
}
