-- A flag as a number.
use Rattle.std.proofs.Common.{◌≡◌, ◌↔◌, IsTrue, Bool, true, false, refl, arith}
use Rattle.descriptor.specs.Layout.{bit}

pub bit-same : (a b : Bool) → bit a ≡ bit b → a ≡ b
bit-same true true h = refl
bit-same true false h = absurd (omega arith)
bit-same false true h = absurd (omega arith)
bit-same false false h = refl

-- what a test says by the value that it has
pub when_true : {b : Bool} {P : Type 0} → IsTrue b ↔ P → b ≡ true → P
when_true h e = h.0 e

pub not-when_false : {b : Bool} {P : Type 0} → IsTrue b ↔ P → b ≡ false → ¬ P
not-when_false h e keeps = let set = h.1 keeps in cc
