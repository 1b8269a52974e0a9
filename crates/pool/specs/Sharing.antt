-- The rule of the queue: the numbers in it and those held by all passes together are 0 to count - 1, each once.
-- "Together each once" is expressed by weights: for every weighing of the numbers, both sides weigh the same.
use Rattle.std.specs.Prelude.{◌≡◌, ℕ, ◌+◌, ◌<◌, List, [], map, IfSome, All}
use Rattle.std.specs.List.{range_with_len}
use mathlib.Core.Option.{some}
use lib.ListN.{get_elem?}
use Rattle.buffer_pool.specs.Buffer.{Buffer, buffer}
use Rattle.pool.specs.declared.hand.Hand.{Hand}
use Rattle.pool.specs.declared.hand.TheConstants.{WHOLE_SHARE}
use Rattle.pool.specs.Hands.{total}

abbrev pub numbers : List Buffer → List ℕ
numbers items = map (λ b. b.number) items

-- The rule for one pass. Without a share it holds nothing. Only with the whole share can it know the queue, and then
-- correctly.
pub record Fits (count : ℕ) (queue : List ℕ) (v : Hand) : Type 0 where
  pub idle : v.share ≡ 0 → v.held ≡ []
  pub counted : 0 < v.share → v.count ≡ count
  pub queued : IfSome v.queued (λ q. (v.share ≡ WHOLE_SHARE) × (q ≡ queue))

abbrev pub AllFit : ℕ → List ℕ → List Hand → Type 0
AllFit count queue views = (port : ℕ) (v : Hand) → get_elem? views port ≡ some v → Fits count queue v

pub record Partition (count : ℕ) (items : List Buffer) (views : List Hand) : Type 0 where
  pub shares : total (λ v. v.share) views ≡ WHOLE_SHARE
  pub once : (h : ℕ → ℕ) → total (λ v. total h v.held) views + total h (numbers items) ≡ total h (range_with_len 0 count)
  pub ready : All (λ b. b ≡ buffer b.number []) items
  pub each : AllFit count (numbers items) views

abbrev pub Shared : List Buffer → List Hand → Type 0
Shared items views = (count : ℕ) × Partition count items views
