-- Buffers of a stopped flow on their way to the pool.
use Rattle.std.proofs.Common.{◌≡◌, ℕ, List, [], ◌∷◌, ◌++◌, Option, None, subst, arith, IsPermutation, refl}
use Rattle.std.proofs.lemmas.List.Sorted.{length_permutation}
use Rattle.buffer_pool.specs.Buffer.{Buffer}
use Rattle.pool.proofs.Totals.{total-append}
use Rattle.pool.proofs.Moving.{total-shuffled}
use Rattle.shared_ring.specs.Meeting.{number_at}
use Rattle.flows.specs.Holding.{HoldsJust}
use Rattle.buffer_accounting.proofs.Giving.{shuffled}

-- all that is held: first what is at hand, then what is out in both rings
pub at-hand-first : (held stash out_rx chain packets out_tx : List ℕ) → HoldsJust held (stash ++ ((out_rx ++ chain) ++ (packets ++ out_tx)))
    → IsPermutation held ((stash ++ (packets ++ chain)) ++ (out_rx ++ out_tx))
at-hand-first held stash out_rx chain packets out_tx just = shuffled held ((stash ++ (packets ++ chain)) ++ (out_rx ++ out_tx)) (λ h. omega (
  arith,
  just h,
  total-append h stash ((out_rx ++ chain) ++ (packets ++ out_tx)),
  total-append h (out_rx ++ chain) (packets ++ out_tx),
  total-append h out_rx chain,
  total-append h packets out_tx,
  total-append h (stash ++ (packets ++ chain)) (out_rx ++ out_tx),
  total-append h stash (packets ++ chain),
  total-append h packets chain,
  total-append h out_rx out_tx,
))

-- what was out in a ring is what lay in its places, where none is held beside them
pub places-first : (held out others places : List ℕ) (o : Option Buffer) → o ≡ None → IsPermutation held (out ++ others) → IsPermutation out (places ++ number_at o)
    → IsPermutation held (places ++ others)
places-first held out others places o none all came = let once : IsPermutation out (places ++ []) = subst (λ (o : Option Buffer). IsPermutation out (places ++ number_at o)) none came in
    shuffled held (places ++ others) (λ h. omega (
      arith,
      total-shuffled h held (out ++ others) all,
      total-shuffled h out (places ++ []) once,
      total-append h out others,
      total-append h places [],
      total-append h places others,
    ))

pub holds-none : (held : List ℕ) → IsPermutation held [] → held ≡ []
holds-none [] p = refl
holds-none (x ∷ xs) p = absurd (let e = length_permutation (x ∷ xs) [] p in omega (arith, e))
