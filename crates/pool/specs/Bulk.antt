-- The buffers that a refill moves.
use Rattle.std.specs.Prelude.{◌≡◌, ℕ, List, ◌++◌, length, reverse}
use Rattle.pool.specs.declared.hand.Hand.{Hand}
use Rattle.pool.specs.Hands.{Took}

-- `moved` numbers, in the pool's order, went from the pool to the stash, the last one on top.
pub record Refilled (v : Hand) (stash : List ℕ) (moved : ℕ) (w : Hand) (after : List ℕ) : Type 0 where
  pub numbers : List ℕ
  pub as_many : length numbers ≡ moved
  pub took : Took v numbers w
  pub stashed : after ≡ reverse numbers ++ stash
