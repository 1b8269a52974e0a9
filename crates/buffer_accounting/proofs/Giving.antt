-- Buffers of a disabled queue on their way to the pool.
use Rattle.std.proofs.Common.{◌≡◌, ◌∙◌, ℕ, ◌<◌, List, [], ◌∷◌, ◌++◌, length, map, drop, reverse, IsPermutation, sym, ap, subst, arith, append_assoc, length-append}
use Rattle.std.proofs.lemmas.List.{drop_all}
use Rattle.std.proofs.lemmas.List.Sorted.{IsPermutation-append_left, IsPermutation-trans, length_permutation}
use Rattle.buffer_pool.specs.Buffer.{Buffer}
use Rattle.ring_model.specs.transmit.Ring.{number_of_posting}
use Rattle.rx_ring.specs.Ends as receive
use Rattle.tx_ring.specs.Ends as transmit
use Rattle.driver.specs.receive.Receiver.{Receiver}
use Rattle.driver.specs.receive.Returns as received
use Rattle.driver.specs.receive.Returns.{numbers_of}
use Rattle.driver.specs.transmit.Frames.{numbers_in}
use Rattle.driver.specs.transmit.Returns as sent
use Rattle.driver.specs.transmit.Transmitter.{Transmitter}
use Rattle.pool.specs.Hands.{HoldsAll, total}
use Rattle.pool.proofs.Totals.{total-append}
use Rattle.pool.proofs.Accounts.{same-members}
use Rattle.pool.specs.declared.hand.Hand.{Hand}
use Rattle.pool.specs.Bulk.{Refilled}
use Rattle.buffer_accounting.proofs.Weights.{total-packets, total-lent}
use Rattle.pool.proofs.Moving.{total-shuffled}
use Rattle.buffer_accounting.specs.Lent.{with_receiver, with_transmitter, lent, Exchanged, GivenBack, SameNumbers}

-- the same numbers are a permutation, and the other way round
pub weighed : (xs ys : List ℕ) → IsPermutation xs ys → SameNumbers xs ys
weighed xs ys p = λ h. sym (total-shuffled h xs ys p)

pub shuffled : (xs ys : List ℕ) → SameNumbers xs ys → IsPermutation xs ys
shuffled = same-members

-- what is given or exchanged is among what is held
pub holds-all : (held before rest : List ℕ) → SameNumbers held (before ++ rest) → HoldsAll held before
holds-all held before rest e = (rest, shuffled held (before ++ rest) e)

-- where something is held beside the first numbers, it is beside those that they were exchanged for
pub holds-on : (held before new after : List ℕ) → Exchanged held before new after → HoldsAll held before → HoldsAll new after
holds-on held before new after e (rest, p) = (rest, e rest p)

pub exchanged-more : (held before new middle after : List ℕ) → Exchanged held before new middle → IsPermutation middle after → Exchanged held before new after
exchanged-more held before new middle after e p = λ rest q. IsPermutation-trans new (middle ++ rest) (after ++ rest) (e rest q) (IsPermutation-append_left rest middle after p)

-- what came into the stash was given
pub exchanged-given : (held before new stash after next : List ℕ) → Exchanged held before new (stash ++ after) → GivenBack new stash next → Exchanged held before next after
exchanged-given held before new stash after next e g = λ rest p. g (after ++ rest) (subst (IsPermutation new) (append_assoc stash after rest) (e rest p))

-- the stash is given first
pub given-first : (held stash with new : List ℕ) → GivenBack held stash new → Exchanged held (stash ++ with) new with
given-first held stash with new g = λ rest p. g (with ++ rest) (subst (IsPermutation held) (append_assoc stash with rest) p)

-- and the stash alone
pub holds-first : (held stash after : List ℕ) → HoldsAll held (stash ++ after) → HoldsAll held stash
holds-first held stash after (rest, p) = (after ++ rest, subst (IsPermutation held) (append_assoc stash after rest) p)

-- a full stash leaves fewer out
pub fewer : (before stash after : List ℕ) → IsPermutation before (stash ++ after) → 0 < length stash → length after < length before
fewer before stash after p some = let e = length_permutation before (stash ++ after) p in let l = length-append stash after in omega arith

pub none-received : (r : Receiver) → received.IsEmptied r → with_receiver r ≡ []
none-received r e = let out : drop (receive.returned r.end) (receive.posted r.end) ≡ [] = drop_all (receive.returned r.end) (receive.posted r.end) (omega (arith, e.none_out)) in
    ap (λ (l : List ℕ). map received.itself l ++ received.numbers_of r.chain) out ∙ ap received.numbers_of e.no_chain

pub none-sent : (t : Transmitter) → sent.IsEmptied t → with_transmitter t ≡ []
none-sent t e = ap (map number_of_posting) (drop_all (transmit.returned t.end) (transmit.posted t.end) (omega (arith, e.none_out)))

-- What holds in the loop that gives a queue's buffers: all that is still held of `before` is what is out, and the stash is empty
module _ (held before new stash out has still : List ℕ) (given : Exchanged held before new out) (empty : stash ≡ []) (moved : IsPermutation (stash ++ out) (has ++ still)) where
  pub moved-out : IsPermutation out (has ++ still)
  moved-out = subst (λ (l : List ℕ). IsPermutation (l ++ out) (has ++ still)) empty moved

  pub reclaimed : Exchanged held before new (has ++ still)
  reclaimed = exchanged-more held before new out (has ++ still) given moved-out

-- before the loop the stash was given
pub holds-begun : (held stash out new empty : List ℕ) → HoldsAll held (stash ++ out) → GivenBack held stash new → empty ≡ [] → HoldsAll new (empty ++ out)
holds-begun held stash out new empty h g e = subst (λ (l : List ℕ). HoldsAll new (l ++ out)) (sym e) (holds-on held (stash ++ out) new out (given-first held stash out new g) h)

-- and behind it nothing is out
pub all-given : (held stash out new empty next still : List ℕ) → GivenBack held stash new → empty ≡ [] → Exchanged new (empty ++ out) next still → still ≡ [] → GivenBack held (stash ++ out) next
all-given held stash out new empty next still g e x none = λ rest p.
    subst (λ (l : List ℕ). IsPermutation next (l ++ rest)) none
    (x rest (subst (λ (l : List ℕ). IsPermutation new ((l ++ out) ++ rest)) (sym e) (given-first held stash out new g rest p)))

-- the last packet of a list, and those before it
pub last-packet : (ps qs : List (List Buffer)) (p : List Buffer) → ps ≡ qs ++ p ∷ [] → IsPermutation (numbers_in ps) (numbers_of p ++ numbers_in qs)
last-packet ps qs p e = same-members (numbers_in ps) (numbers_of p ++ numbers_in qs) (λ h. omega (
  arith,
  ap (λ (l : List (List Buffer)). total h (numbers_in l)) e,
  total-packets h qs (p ∷ []),
  total-append h (numbers_of p) [],
  total-append h (numbers_of p) (numbers_in qs),
))

-- ---- a worker's turn

module _ (rx : Receiver) (tx : Transmitter) (stash : List ℕ) (packets : List (List Buffer)) where
  -- a refill
  pub lent-refilled : (v w : Hand) (moved : ℕ) (has : List ℕ) → SameNumbers v.held (lent rx tx stash packets) → Refilled v stash moved w has → SameNumbers w.held (lent rx tx has packets)
  lent-refilled v w moved has e r = λ h. omega (
    arith,
    e h,
    total-lent h rx tx stash packets,
    total-lent h rx tx has packets,
    ap (total h) r.stashed,
    total-append h (reverse r.numbers) stash,
    ap (total h) r.took.held,
    total-append h (reverse r.numbers) v.held,
  )
