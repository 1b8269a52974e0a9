-- What a pass of a pool holds.
use Rattle.std.proofs.Common.{ℕ, suc, Contains, List, [], ◌∷◌, ◌++◌, refl, arith}

-- what was held stays held behind what is taken afterwards
pub behind : (xs ys : List ℕ) (n : ℕ) → Contains (xs ++ n ∷ ys) n
behind [] ys n = (0, omega arith, refl)
behind (x ∷ xs) ys n = let c = behind xs ys n in (suc c.0, omega (arith, c.1), c.2)
