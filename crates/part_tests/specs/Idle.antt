-- A worker's pass, before its work and after it.
use Rattle.std.specs.Prelude.{◌≡◌, ℕ, []}
use Rattle.pool.specs.Owned.{Pooled, Passed, IsOf}

-- the pass is of the pool, has so large a share, and holds nothing
pub record HoldsNone (pool : Pooled) (share : ℕ) (pass : Passed) : Type 0 where
  pub own : IsOf pool pass
  pub share_is : pass.hand.share ≡ share
  pub none_held : pass.hand.held ≡ []
