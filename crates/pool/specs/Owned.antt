-- The views of a `Pool` and of a `PoolPass` in contracts.
use Rattle.std.specs.Prelude.{◌≡◌, ℕ, ◌<◌, []}
use Rattle.atomic_table.specs.Seated.{TableId}
use Rattle.crossbeam_queue.specs.Passes.{Pass, view}
use Rattle.buffer_pool.specs.Buffer.{Buffer}
use Rattle.pool.specs.declared.hand.Hand.{Hand}
use Rattle.pool.specs.Plays.{IsFair}

-- The pool's identity, and the number of its buffers.
pub record Pooled : Type 0 where
  pub id : TableId
  pub count : ℕ

-- The pool of the pass, and the contents of the pass.
pub record Passed : Type 0 where
  pub pool : TableId
  pub hand : Hand

-- The pass was made with this pool, or split off a pass that was.
pub record IsOf (p : Pooled) (pass : Passed) : Type 0 where
  pub pool : pass.pool ≡ p.id
  pub count : pass.hand.count ≡ p.count

-- A pass between two calls.
pub record IsIdle (p : Pass Buffer Hand) : Type 0 where
  pub slots : p.me.1 ≡ []
  pub share : 0 < (view p).share
  pub fair : IsFair (view p)
