-- Lists of numbers, weighed: whatever the weights, the same numbers weigh the same.
use Rattle.std.proofs.Common.{◌≡◌, ◌∙◌, ℕ, ◌+◌, List, [], ◌∷◌, ◌++◌, take, drop, reverse, sym, ap, arith}
use Rattle.std.proofs.lemmas.List.{map-append, take-append-drop}
use Rattle.std.proofs.lemmas.List.Sorted.{IsPermutation-reverse}
use Rattle.buffer_pool.specs.Buffer.{Buffer}
use Rattle.driver.specs.receive.Receiver.{Receiver}
use Rattle.driver.specs.receive.Returns.{itself, numbers_of}
use Rattle.driver.specs.Reclaiming.{out_of}
use Rattle.driver.specs.transmit.Frames.{numbers_in}
use Rattle.driver.specs.transmit.Transmitter.{Transmitter}
use Rattle.pool.specs.Hands.{total}
use Rattle.pool.proofs.Totals.{total-append}
use Rattle.pool.proofs.Moving.{total-shuffled}
use Rattle.buffer_accounting.specs.Lent.{lent, with_receiver, with_transmitter}

module _ (h : ℕ → ℕ) where
  pub total-reverse : (xs : List ℕ) → total h (reverse xs) ≡ total h xs
  total-reverse xs = total-shuffled h xs (reverse xs) (IsPermutation-reverse xs)

  pub total-receiver : (r : Receiver) → total h (with_receiver r) ≡ total h (out_of itself r.end) + total h (numbers_of r.chain)
  total-receiver r = total-append h (out_of itself r.end) (numbers_of r.chain)

  pub total-lent : (rx : Receiver) (tx : Transmitter) (stash : List ℕ) (packets : List (List Buffer))
      → total h (lent rx tx stash packets) ≡ total h stash + total h (with_receiver rx) + total h (numbers_in packets) + total h (with_transmitter tx)
  total-lent rx tx stash packets = omega (
    arith,
    total-append h stash (with_receiver rx ++ (numbers_in packets ++ with_transmitter tx)),
    total-append h (with_receiver rx) (numbers_in packets ++ with_transmitter tx),
    total-append h (numbers_in packets) (with_transmitter tx),
  )

  pub total-buffers : (all first rest : List Buffer) → all ≡ first ++ rest → total h (numbers_of all) ≡ total h (numbers_of first) + total h (numbers_of rest)
  total-buffers all first rest e = ap (λ (l : List Buffer). total h (numbers_of l)) e ∙ (ap (total h) (map-append (λ (b : Buffer). b.number) first rest) ∙ total-append h (numbers_of first) (numbers_of rest))

  -- packets behind packets, and the first of them with the others
  pub total-packets : (ps qs : List (List Buffer)) → total h (numbers_in (ps ++ qs)) ≡ total h (numbers_in ps) + total h (numbers_in qs)
  total-packets [] qs = omega arith
  total-packets (p ∷ ps) qs = omega (
    arith,
    total-append h (numbers_of p) (numbers_in (ps ++ qs)),
    total-packets ps qs,
    total-append h (numbers_of p) (numbers_in ps),
  )

  pub total-cut : (count : ℕ) (ps : List (List Buffer)) → total h (numbers_in ps) ≡ total h (numbers_in (take count ps)) + total h (numbers_in (drop count ps))
  total-cut count ps = ap (λ (l : List (List Buffer)). total h (numbers_in l)) (sym (take-append-drop count ps)) ∙ total-packets (take count ps) (drop count ps)
