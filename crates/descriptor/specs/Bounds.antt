-- A lemma for the laws of the descriptors' impls. It is here because a law cannot cite this crate's `proofs/`.
use Rattle.std.specs.Prelude.{◌<◌, Bool, true, false}
use Rattle.std.proofs.Common.{arith}
use Rattle.descriptor.specs.Layout.{bit}

pub bit_lt : (b : Bool) → bit b < 2
bit_lt true = omega arith
bit_lt false = omega arith
