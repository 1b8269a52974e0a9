-- The state of a pool's pass, and the changes that a call makes to it.
use Rattle.std.specs.Prelude.{◌≡◌, ◌≢◌, ℕ, ◌+◌, ◌-◌, ◌<◌, ◌==◌, List, [], ◌∷◌, ◌++◌, reverse, Option, Some, None, IfSome, IsSome, All, AllPairs, IsPermutation, cond}
use Rattle.std.specs.List.{range_with_len}
use Rattle.pool.specs.declared.hand.Hand.{Hand}
use Rattle.pool.specs.declared.hand.TheConstants.{WHOLE_SHARE}

abbrev pub hand : ℕ → ℕ → List ℕ → Option (List ℕ) → Hand
hand share count held queued = record { share = share; count = count; held = held; queued = queued }

-- The hand of the pass of a new pool of `count` buffers: no buffer is out.
abbrev pub fresh_hand : ℕ → Hand
fresh_hand count = hand WHOLE_SHARE count [] (Some (range_with_len 0 count))

-- The list without the first `n` in it.
abbrev pub without : ℕ → List ℕ → List ℕ
without n [] = []
without n (x ∷ xs) = cond (x == n) xs (x ∷ without n xs)

-- The list without the first occurrence of each of these numbers.
abbrev pub without_all : List ℕ → List ℕ → List ℕ
without_all [] xs = xs
without_all (n ∷ ns) xs = without_all ns (without n xs)

-- The sum of `h` over the list.
abbrev pub total : {X : Type 0} → (X → ℕ) → List X → ℕ
total h [] = 0
total h (x ∷ xs) = h x + total h xs

-- Each of these numbers is held, as often as it appears among them.
abbrev pub HoldsAll : List ℕ → List ℕ → Type 0
HoldsAll held ns = (rest : List ℕ) × IsPermutation held (ns ++ rest)

-- The buffers with these numbers were taken out of the pool, in this order.
pub record Took (v : Hand) (ns : List ℕ) (w : Hand) : Type 0 where
  pub share : w.share ≡ v.share
  pub count : w.count ≡ v.count
  pub held : w.held ≡ reverse ns ++ v.held
  pub queued : IfSome v.queued (λ q. (rest : List ℕ) × (q ≡ ns ++ rest) × (w.queued ≡ Some rest))

-- The buffers with these numbers were given back to the pool, in this order.
pub record Gave (v : Hand) (ns : List ℕ) (w : Hand) : Type 0 where
  pub share : w.share ≡ v.share
  pub count : w.count ≡ v.count
  pub held : w.held ≡ without_all ns v.held
  pub queued : IfSome v.queued (λ q. w.queued ≡ Some (q ++ ns))

-- A pass with the whole share knows what the pool holds.
abbrev pub Knows : Hand → Type 0
Knows v = v.share ≡ WHOLE_SHARE → IsSome v.queued

-- The held numbers are numbers of the pool, each once.
pub record HoldsOnce (v : Hand) : Type 0 where
  pub of_pool : All (λ n. n < v.count) v.held
  pub once : AllPairs (λ n m. n ≢ m) v.held

-- If the pass knows what the pool holds, those numbers and its own are together the whole pool, each once.
abbrev pub Partitions : Hand → Type 0
Partitions v = IfSome v.queued (λ q. IsPermutation (range_with_len 0 v.count) (v.held ++ q))

pub record Accounts (v : Hand) : Type 0 where
  pub once : HoldsOnce v
  pub whole : Partitions v

-- The pool was empty at a moment of the call. A pass with the whole share then holds all buffers itself.
pub record WasDry (v : Hand) : Type 0 where
  pub queued : IfSome v.queued (λ q. q ≡ [])
  pub whole : v.share ≡ WHOLE_SHARE → IsPermutation (range_with_len 0 v.count) v.held

-- A split: the first pass keeps what it held and the rest of its share; the second has the share `k` and holds nothing.
abbrev pub kept_hand : ℕ → Hand → Hand
kept_hand k v = hand (v.share - k) v.count v.held None

abbrev pub new_hand : ℕ → Hand → Hand
new_hand k v = hand k v.count [] None

-- Both shares, and everything that both held.
abbrev pub joined_hand : Hand → Hand → Hand
joined_hand v w = hand (v.share + w.share) v.count (v.held ++ w.held) None

-- A pass with the whole share, whether or not it knows what the pool holds: its numbers and some numbers in the pool
-- are together the whole pool, each once.
abbrev pub HoldsWhole : Hand → Type 0
HoldsWhole v = v.share ≡ WHOLE_SHARE → (queued : List ℕ) × IsPermutation (range_with_len 0 v.count) (v.held ++ queued)
