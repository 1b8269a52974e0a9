-- Reclaiming, refills and gifts.
use Rattle.std.proofs.Common.{◌≡◌, ℕ, List, ◌++◌, reverse, ap, arith}
use Rattle.ring_model.specs.transmit.Ring.{number_of_posting}
use Rattle.driver.specs.Reclaiming.{out_of, CameBack}
use Rattle.driver.specs.receive.Receiver.{Receiver}
use Rattle.driver.specs.receive.Returns.{itself, numbers_of, GaveBack}
use Rattle.driver.specs.transmit.Transmitter.{Transmitter}
use Rattle.pool.specs.Hands.{total}
use Rattle.pool.proofs.Totals.{total-append}
use Rattle.pool.proofs.Accounts.{same-members}
use Rattle.pool.proofs.Moving.{total-shuffled}
use Rattle.buffer_accounting.specs.Lent.{with_receiver, with_transmitter}
use Rattle.buffer_accounting.specs.Laws.{ReclaimingMoves, RefillsAreHeld}
use Rattle.buffer_accounting.proofs.Weights.{total-reverse, total-receiver, total-buffers}

module _ (h : ℕ → ℕ) where
  pub total-given : (old new : Receiver) (had has : List ℕ) → GaveBack old had new has → total h (had ++ with_receiver old) ≡ total h (has ++ with_receiver new)
  total-given old new had has g = omega (
    arith,
    total-append h had (with_receiver old),
    total-append h has (with_receiver new),
    total-receiver h old,
    total-receiver h new,
    total-buffers h old.chain g.chain.moved new.chain g.chain.chain,
    ap (total h) g.chain.stash,
    total-append h (reverse (numbers_of g.chain.moved)) had,
    total-reverse h (numbers_of g.chain.moved),
    ap (total h) g.ring.out,
    total-append h g.ring.numbers (out_of itself new.end),
    ap (total h) g.ring.stash,
    total-append h (reverse g.ring.numbers) g.between,
    total-reverse h g.ring.numbers,
  )

  pub total-returned : (old new : Transmitter) (had has : List ℕ) → CameBack number_of_posting old.end had new.end has → total h (had ++ with_transmitter old) ≡ total h (has ++ with_transmitter new)
  total-returned old new had has c = omega (
    arith,
    total-append h had (with_transmitter old),
    total-append h has (with_transmitter new),
    ap (total h) c.out,
    total-append h c.numbers (with_transmitter new),
    ap (total h) c.stash,
    total-append h (reverse c.numbers) had,
    total-reverse h c.numbers,
  )

pub reclaiming-moves : ReclaimingMoves
reclaiming-moves = record {
  received = λ old new had has g. same-members (had ++ with_receiver old) (has ++ with_receiver new) (λ h. total-given h old new had has g);
  sent = λ old new had has c. same-members (had ++ with_transmitter old) (has ++ with_transmitter new) (λ h. total-returned h old new had has c);
}

pub refills-held : RefillsAreHeld
refills-held v w moved had has r rest p = same-members w.held (has ++ rest) (λ h. omega (
  arith,
  total-shuffled h v.held (had ++ rest) p,
  total-append h had rest,
  total-append h has rest,
  ap (total h) r.stashed,
  total-append h (reverse r.numbers) had,
  ap (total h) r.took.held,
  total-append h (reverse r.numbers) v.held,
))
