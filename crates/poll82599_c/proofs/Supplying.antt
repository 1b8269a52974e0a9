-- When no more buffers move between a worker and a pool.
use Rattle.std.proofs.Common.{◌≡◌, ◌∙◌, ℕ, ◌+◌, ◌-◌, ◌<◌, ◌≤◌, ◌⊎◌, List, ◌++◌, length, ap, sym, arith, inl, inr, length-append}
use Rattle.std.specs.Prelude.{min}
use Rattle.std.proofs.lemmas.Bool.{cases_lt}

pub sum_kept : (pool stash pool' stash' : List ℕ) → pool' ++ stash' ≡ pool ++ stash → length pool' + length stash' ≡ length pool + length stash
sum_kept pool stash pool' stash' e = sym (length-append pool' stash') ∙ (ap length e ∙ length-append pool stash)

pub refill_ends : (pool had pool' has count : ℕ) → count ≡ min pool (256 - had) → had ≤ 256 → has ≡ had + count → pool' + has ≡ pool + had → (has ≡ 256) ⊎ (pool' ≡ 0)
refill_ends pool had pool' has count least few came sum = by_case (cases_lt pool (256 - had))
  where
    by_case : (pool < 256 - had) ⊎ (256 - had ≤ pool) → (has ≡ 256) ⊎ (pool' ≡ 0)
    by_case (inl less) = inr (omega (arith, least, came, sum, less))
    by_case (inr most) = inl (omega (arith, least, came, few, most))

pub return_ends : (wanted room pool had pool' has count : ℕ) → room ≡ 65536 - pool → count ≡ min (min wanted room) had → pool ≤ 65536 → had ≡ has + count → pool' + has ≡ pool + had
    → (count ≡ wanted) ⊎ ((has ≡ 0) ⊎ (pool' ≡ 65536))
return_ends wanted room pool had pool' has count room_is least few went sum = by_had (cases_lt had (min wanted room))
  where
    by_room : (wanted < room) ⊎ (room ≤ wanted) → min wanted room ≤ had → (count ≡ wanted) ⊎ ((has ≡ 0) ⊎ (pool' ≡ 65536))
    by_room (inl less) most = inl (omega (arith, least, less, most))
    by_room (inr more) most = inr (inr (omega (arith, least, more, most, room_is, few, went, sum)))

    by_had : (had < min wanted room) ⊎ (min wanted room ≤ had) → (count ≡ wanted) ⊎ ((has ≡ 0) ⊎ (pool' ≡ 65536))
    by_had (inl less) = inr (inl (omega (arith, least, less, went)))
    by_had (inr most) = by_room (cases_lt wanted room) most
