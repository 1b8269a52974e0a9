-- Several queues side by side: each move names its queue and leaves all others unchanged.
use Rattle.std.specs.Prelude.{◌≡◌, ◌≢◌, ℕ, Bool, false, List, length, replicate, Option, Some, None, slice_get, slice_set, if◌then◌else◌}
use Rattle.ring_model.specs.declared.steps.RxStep.{RxStep}
use Rattle.ring_model.specs.declared.steps.TxStep.{TxStep}
use Rattle.ring_model.specs.declared.notes.Note.{Note}
use Rattle.ring_model.specs.shared.Schedules.{after_all, happened, next, IsReached}
use Rattle.ring_model.specs.receive.Ring.{RxRing, rx_opening}
use Rattle.ring_model.specs.receive.Steps.{rx_can, rx_changed, rx_next, rx_note_of, IsRxReachable}
use Rattle.ring_model.specs.receive.Lawful.{IsLawfulRx}
use Rattle.ring_model.specs.receive.Laws.{RxLater}
use Rattle.ring_model.specs.transmit.Ring.{Posting, TxBeginning, TxRing, tx_opening}
use Rattle.ring_model.specs.transmit.Steps.{tx_can, tx_changed, tx_next, tx_note_of, IsTxReachable}
use Rattle.ring_model.specs.transmit.Lawful.{IsLawfulTx}
use Rattle.ring_model.specs.transmit.Laws.{TxLater}

pub record World : Type 0 where
  pub receive : List (RxRing ℕ)
  pub transmit : List (TxRing ℕ)

-- A step of the queue with the given number.
pub data QueueMove : Type 0 where
  Receive : ℕ → RxStep ℕ → QueueMove
  Transmit : ℕ → TxStep (Posting ℕ) → QueueMove

-- A new world: `pairs` queue pairs with rings of `n` places.
abbrev pub opening_world : ℕ → ℕ → TxBeginning → World
opening_world pairs n b = record { receive = replicate pairs (rx_opening n b.enabled); transmit = replicate pairs (tx_opening n b) }

-- For the queues of one direction. A queue that does not exist has no step.
module _ {Ring Step : Type 0} where
  abbrev pub can_at : (Ring → Step → Bool) → Option Ring → Step → Bool
  can_at can None s = false
  can_at can (Some r) s = can r s

  abbrev pub put_next : (Ring → Step → Ring) → List Ring → ℕ → Step → Option Ring → List Ring
  put_next next rs q s None = rs
  put_next next rs q s (Some r) = slice_set rs q (next r s)

  abbrev pub note_at : (Ring → Step → Bool) → (Ring → Step → Note) → Option Ring → Step → Option Note
  note_at can tells None s = None
  note_at can tells (Some r) s = if can r s then Some (tells r s) else None

abbrev pub can_move : World → QueueMove → Bool
can_move w (Receive q s) = can_at rx_can (slice_get w.receive q) s
can_move w (Transmit q s) = can_at tx_can (slice_get w.transmit q) s

-- The move's own queue makes the step, if the queue exists.
abbrev pub after_move : World → QueueMove → World
after_move w (Receive q s) = record w { receive = put_next rx_next w.receive q s (slice_get w.receive q) }
after_move w (Transmit q s) = record w { transmit = put_next tx_next w.transmit q s (slice_get w.transmit q) }

-- The note of the move, or `None` if the step cannot happen or the queue does not exist.
abbrev pub note_in : World → QueueMove → Option Note
note_in w (Receive q s) = note_at rx_can rx_note_of (slice_get w.receive q) s
note_in w (Transmit q s) = note_at tx_can tx_note_of (slice_get w.transmit q) s

abbrev pub after_moves : World → List QueueMove → World
after_moves = after_all can_move after_move

abbrev pub moves_happened : World → List QueueMove → ℕ
moves_happened = happened can_move after_move

-- Some schedule of moves leads from a new world with rings of `n` places to `w`.
abbrev pub IsReachableWorld : ℕ → ℕ → World → Type 0
IsReachableWorld pairs n w = IsReached can_move after_move (opening_world pairs n) w

-- The effect of a move of queue `q`: `may` says whether it can happen, `later` are the queues after it, and `told` is
-- its note. If queue `q` exists, it makes the step once. Otherwise nothing happens and there is no note.
module _ {Ring Step : Type 0} (can : Ring → Step → Bool) (changed : Ring → Step → Ring) (tells : Ring → Step → Note) where
  -- No worked row decides this; `queues_stand_apart` proves it of every move.
  pub record MakesStep (before : List Ring) (q : ℕ) (s : Step) (may : Bool) (later : List Ring) (told : Option Note) : Type 0 where
    pub possible : (r : Ring) → slice_get before q ≡ Some r → may ≡ can r s
    pub stepped : (r : Ring) → slice_get before q ≡ Some r → slice_get later q ≡ Some (next can changed r s)
    pub tells_it : (r : Ring) → slice_get before q ≡ Some r → told ≡ (if can r s then Some (tells r s) else None)
    pub impossible : slice_get before q ≡ None → may ≡ false
    pub unchanged : slice_get before q ≡ None → later ≡ before
    pub tells_nothing : slice_get before q ≡ None → told ≡ None

abbrev pub IsStepOfQueue : World → QueueMove → Bool → World → Option Note → Type 0
IsStepOfQueue w (Receive q s) may later told = MakesStep rx_can rx_changed rx_note_of w.receive q s may later.receive told
IsStepOfQueue w (Transmit q s) may later told = MakesStep tx_can tx_changed tx_note_of w.transmit q s may later.transmit told

-- All other queues are unchanged.
-- No worked row decides this; `queues_stand_apart` proves it of every move.
abbrev pub IsLeftAlone : World → QueueMove → World → Type 0
IsLeftAlone w (Receive q s) later = (later.transmit ≡ w.transmit) × ((k : ℕ) → k ≢ q → slice_get later.receive k ≡ slice_get w.receive k)
IsLeftAlone w (Transmit q s) later = (later.receive ≡ w.receive) × ((k : ℕ) → k ≢ q → slice_get later.transmit k ≡ slice_get w.transmit k)

-- Every queue of the world is a ring that a schedule of its own steps reaches, and therefore lawful.
-- No worked row decides this; `queues_stand_apart` proves it of every reachable world.
pub record IsLawfulWorld (n : ℕ) (w : World) : Type 0 where
  pub receive_reached : (q : ℕ) (r : RxRing ℕ) → slice_get w.receive q ≡ Some r → IsRxReachable ℕ n r
  pub transmit_reached : (q : ℕ) (r : TxRing ℕ) → slice_get w.transmit q ≡ Some r → IsTxReachable ℕ n r
  pub receive : (q : ℕ) (r : RxRing ℕ) → slice_get w.receive q ≡ Some r → IsLawfulRx ℕ r
  pub transmit : (q : ℕ) (r : TxRing ℕ) → slice_get w.transmit q ≡ Some r → IsLawfulTx ℕ r

-- The number of queues is unchanged, and each queue continues from its earlier state.
-- No worked row decides this; `queues_stand_apart` proves it of every continued schedule.
pub record WorldLater (w later : World) : Type 0 where
  pub receive_count : length later.receive ≡ length w.receive
  pub transmit_count : length later.transmit ≡ length w.transmit
  pub receive : (q : ℕ) (r after : RxRing ℕ) → slice_get w.receive q ≡ Some r → slice_get later.receive q ≡ Some after → RxLater r after
  pub transmit : (q : ℕ) (r after : TxRing ℕ) → slice_get w.transmit q ≡ Some r → slice_get later.transmit q ≡ Some after → TxLater r after
