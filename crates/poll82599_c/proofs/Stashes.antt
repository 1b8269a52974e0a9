-- A stash or a pool that gets a stock's buffers.
use Rattle.std.proofs.Common.{◌≡◌, ◌∙◌, ℕ, ◌<◌, ◌≤◌, List, [], ◌∷◌, ◌++◌, length, ap, arith, length-append}
use Rattle.std.specs.List.{range_with_len}
use Rattle.std.proofs.lemmas.List.FromFn.{length-range_with_len}
use Rattle.std.proofs.lemmas.List.Sorted.{length_permutation, IsPermutation-append_comm, IsPermutation-append_right, IsPermutation-trans}
use Rattle.buffer_pool.specs.Stocked.{Shares, Stocked, with_number}

-- while the stock has a buffer, the stash has not all of them
pub room_left : (most : ℕ) (s left : Stocked) (number : ℕ) (stash : List ℕ) → s ≡ with_number left number → Shares s stash → s.count ≤ most → length stash < most
room_left most s left number stash e shared few =
    let whole = length_permutation (range_with_len s.first s.count) (s.numbers ++ stash) shared ∙ length-range_with_len s.first s.count in
    let parts = length-append s.numbers stash in let one = ap (λ x. length x.numbers) e in omega (arith, whole, parts, one, few)

-- it does not matter where the buffer lies that came last
pub shared_behind : (s : Stocked) (number : ℕ) (pool : List ℕ) → Shares s (number ∷ pool) → Shares s (pool ++ number ∷ [])
shared_behind s number pool h =
    IsPermutation-trans (range_with_len s.first s.count) (s.numbers ++ number ∷ pool) (s.numbers ++ (pool ++ number ∷ [])) h
    (IsPermutation-append_right s.numbers (number ∷ pool) (pool ++ number ∷ []) (IsPermutation-append_comm (number ∷ []) pool))
