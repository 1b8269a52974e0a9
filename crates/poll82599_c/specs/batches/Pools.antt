-- A pool of empty buffers, by their numbers, the next one to be taken last; and the steps between it and a worker.
use Rattle.std.specs.Prelude.{◌≡◌, ℕ, zero, suc, ◌+◌, ◌<◌, ◌≤◌, ◌⊎◌, List, ◌++◌, length}
use Rattle.buffer_pool.specs.declared.stash.TheConstants.{STASH_BUFFERS}
use Rattle.poll82599_c.specs.batches.Packets.{Worked}
use Rattle.poll82599_c.specs.declared.batches.pool.TheConstants.{POOL_BUFFERS}

-- the pool's buffers and then the worker's empty ones are the same in the same order, and its packets are the same
pub record KeptAll (old : Worked) (pool : List ℕ) (new : Worked) (pool' : List ℕ) : Type 0 where
  pub buffers : pool' ++ new.stash ≡ pool ++ old.stash
  pub packets : new.packets ≡ old.packets

-- `count` buffers came from the pool, at least one; the worker has as many as it can, or the pool is empty
pub record Refilled (count : ℕ) (old : Worked) (pool : List ℕ) (new : Worked) (pool' : List ℕ) : Type 0 where
  pub kept : KeptAll old pool new pool'
  pub came : length new.stash ≡ length old.stash + count
  pub some : 0 < count
  pub enough : (length new.stash ≡ STASH_BUFFERS) ⊎ (length pool' ≡ 0)

-- `count` buffers went to the pool, at least one: all that were wanted, all that there were, or all that it has room for
pub record Returned (wanted count : ℕ) (old : Worked) (pool : List ℕ) (new : Worked) (pool' : List ℕ) : Type 0 where
  pub kept : KeptAll old pool new pool'
  pub went : length old.stash ≡ length new.stash + count
  pub some : 0 < count
  pub few : count ≤ wanted
  pub enough : (count ≡ wanted) ⊎ ((length new.stash ≡ 0) ⊎ (length pool' ≡ POOL_BUFFERS))

-- ---- the results of calls, and their steps

-- 1: buffers came; 0: the worker has as many as it can, or the pool is empty
abbrev pub TriedRefill : ℕ → ℕ → Worked → List ℕ → Worked → List ℕ → Type 0
TriedRefill zero count old pool new pool' = ((length old.stash ≡ STASH_BUFFERS) ⊎ (length pool ≡ 0)) × (new ≡ old) × (pool' ≡ pool)
TriedRefill (suc zero) count old pool new pool' = Refilled count old pool new pool'
TriedRefill _ count old pool new pool' = ⊥

-- 1: buffers went; 0: none was wanted, the worker has none, or the pool is full
abbrev pub TriedReturn : ℕ → ℕ → ℕ → Worked → List ℕ → Worked → List ℕ → Type 0
TriedReturn zero wanted count old pool new pool' =
    ((wanted ≡ 0) ⊎ ((length old.stash ≡ 0) ⊎ (length pool ≡ POOL_BUFFERS))) × (new ≡ old) × (pool' ≡ pool)
TriedReturn (suc zero) wanted count old pool new pool' = Returned wanted count old pool new pool'
TriedReturn _ wanted count old pool new pool' = ⊥

-- the step of an operation, by its number
abbrev pub Supplied : ℕ → ℕ → ℕ → ℕ → Worked → List ℕ → Worked → List ℕ → Type 0
Supplied zero answer wanted count old pool new pool' = TriedRefill answer count old pool new pool'
Supplied (suc zero) answer wanted count old pool new pool' = TriedReturn answer wanted count old pool new pool'
Supplied _ answer wanted count old pool new pool' = (answer ≡ 4294967295) × (new ≡ old) × (pool' ≡ pool)
