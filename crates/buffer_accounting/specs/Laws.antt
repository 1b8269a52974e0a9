-- The laws of lent buffers.
use Rattle.std.specs.Prelude.{ℕ, List, ◌++◌, IsPermutation}
use Rattle.buffer_pool.specs.Buffer.{Buffer}
use Rattle.ring_model.specs.transmit.Ring.{number_of_posting}
use Rattle.driver.specs.Reclaiming.{CameBack}
use Rattle.driver.specs.receive.Batches.{GrewBy}
use Rattle.driver.specs.receive.Receiver.{Receiver, hands}
use Rattle.driver.specs.receive.Returns.{GaveBack}
use Rattle.driver.specs.transmit.Batches as transmit
use Rattle.driver.specs.transmit.Transmitter.{Transmitter, sending}
use Rattle.pool.specs.declared.hand.Hand.{Hand}
use Rattle.pool.specs.Bulk.{Refilled}
use Rattle.buffer_accounting.specs.Lent.{lent, with_receiver, with_transmitter, Exchanged}

-- the same buffers, in some order
abbrev pub Moved : Receiver → Transmitter → List ℕ → List (List Buffer) → Receiver → Transmitter → List ℕ → List (List Buffer) → Type 0
Moved rx tx stash packets rx' tx' stash' packets' = IsPermutation (lent rx tx stash packets) (lent rx' tx' stash' packets')

pub record BatchesMove : Type 0 where
  pub received : (old new : Receiver) (tx : Transmitter) (had has : List ℕ) (before after : List (List Buffer))
      → GrewBy (hands old had before) (hands new has after) → Moved old tx had before new tx has after
  pub sent : (count : ℕ) (rx : Receiver) (old new : Transmitter) (had has : List ℕ) (before after : List (List Buffer))
      → transmit.Batched count (sending old had before) (sending new has after) → Moved rx old had before rx new has after
  pub cleaned : (rx : Receiver) (old new : Transmitter) (had has : List ℕ) (packets : List (List Buffer))
      → transmit.CleanedInto old.end had new.end has → Moved rx old had packets rx new has packets

pub record ReclaimingMoves : Type 0 where
  pub received : (old new : Receiver) (had has : List ℕ) → GaveBack old had new has → IsPermutation (had ++ with_receiver old) (has ++ with_receiver new)
  pub sent : (old new : Transmitter) (had has : List ℕ) → CameBack number_of_posting old.end had new.end has → IsPermutation (had ++ with_transmitter old) (has ++ with_transmitter new)

abbrev pub RefillsAreHeld : Type 0
RefillsAreHeld = (v w : Hand) (moved : ℕ) (had has : List ℕ) → Refilled v had moved w has → Exchanged v.held had w.held has
