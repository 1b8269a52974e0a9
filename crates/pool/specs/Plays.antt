-- The knowledge that one step gives to the pass that makes it.
use Rattle.std.specs.Prelude.{◌≡◌, ℕ, ◌+◌, ◌≤◌, List, [], ◌∷◌, ◌++◌, length, Some, IfSome}
use Rattle.std.specs.List.{range_with_len}
use Rattle.buffer_pool.specs.Buffer.{Buffer, buffer}
use Rattle.pool.specs.declared.hand.Hand.{Hand}
use Rattle.pool.specs.declared.hand.TheConstants.{WHOLE_SHARE}
use Rattle.pool.specs.Hands.{total, Took, Gave, Knows}
use Rattle.pool.specs.Sharing.{numbers}

-- The rule for one pass, by weights.
pub record IsFair (v : Hand) : Type 0 where
  pub once : (h : ℕ → ℕ) → total h v.held ≤ total h (range_with_len 0 v.count)
  pub whole : IfSome v.queued (λ q. (h : ℕ → ℕ) → total h v.held + total h q ≡ total h (range_with_len 0 v.count))

-- A pop.
pub record Taken (v : Hand) (b : Buffer) (w : Hand) : Type 0 where
  pub ready : b ≡ buffer b.number []
  pub took : Took v (b.number ∷ []) w
  pub fair : IsFair w
  pub knows : Knows w

-- A push of a buffer that was taken.
pub record Given (v : Hand) (b : Buffer) (w : Hand) : Type 0 where
  pub gave : Gave v (b.number ∷ []) w
  pub fair : IsFair w
  pub knows : Knows w

-- A push of a buffer that is new to the pool.
pub record Added (v : Hand) (b : Buffer) (w : Hand) : Type 0 where
  pub share : w.share ≡ v.share
  pub count : w.count ≡ v.count + 1
  pub held : w.held ≡ v.held
  pub queued : IfSome v.queued (λ q. w.queued ≡ Some (q ++ b.number ∷ []))

-- What a look at the queue shows.
pub record Looked (v : Hand) (items : List Buffer) : Type 0 where
  pub once : (h : ℕ → ℕ) → total h v.held ≤ total h (range_with_len 0 v.count)
  pub whole : v.share ≡ WHOLE_SHARE → (h : ℕ → ℕ) → total h v.held + total h (numbers items) ≡ total h (range_with_len 0 v.count)
  pub queued : IfSome v.queued (λ q. q ≡ numbers items)
  pub room : length v.held + length items ≤ v.count
