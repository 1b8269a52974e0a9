-- How words, slots and both records agree with a queue.
use Rattle.std.specs.Prelude.{◌≡◌, ℕ, ◌%◌, ◌<◌, ◌≤◌, Bool, true, false, List, length, Option, Some, slice_get, slice_index}
use mathlib.Core.Option as maybe
use mathlib.Core.Option.{some}
use lib.ListN.{get_elem?}
use Rattle.buffer_pool.specs.Buffer.{Buffer}
use Rattle.ring_model.specs.declared.states.DriverState.{DriverState}
use Rattle.ring_model.specs.declared.states.DriverState.TheVariants.{New, Asked, Cleared, Tailed}
use Rattle.ring_model.specs.shared.Handshakes.{is_serving, is_between_epochs}
use Rattle.ring_model.specs.shared.Queue.{Queue, posted_count, completed_count, returned_count}
use Rattle.ring_model.specs.shared.Agreement.{HasItems, held_buffer}
use Rattle.shared_ring.specs.Registers.{HasRegisters, registers_of}
use Rattle.shared_ring.specs.Slots.{home_at}
use Rattle.shared_ring.specs.Records.{Driven, Controlled}

-- The driver's record of a queue.
abbrev pub driven : {Posted Completed Reaped : Type 0} → Queue Posted Completed Reaped → Driven Posted Reaped
driven q = record { posted = q.ledger.posted; published = q.published; reaped = q.ledger.reaped; reclaimed = q.reclaimed; state = q.handshake.driver }

-- The driver has cleared the head or begun an epoch, and has not yet seen the epoch enabled.
abbrev pub is_early : DriverState → Bool
is_early New = true
is_early Asked = true
is_early Cleared = true
is_early Tailed = true
is_early _ = false

module _ {Posted Completed Reaped : Type 0} (word_of_item : ℕ → Option Posted → Option Completed → ℕ) (buffer_of_item : Option Posted → Option Completed → Option Buffer) where
  -- The controller's record of a queue. Between a renewal and the answered enabling, it is that of the previous epoch.
  pub record IsControlled (q : Queue Posted Completed Reaped) (bars : Bool) (c : Controlled Completed) : Type 0 where
    pub completed : is_between_epochs q.handshake ≡ false → c.completed ≡ q.ledger.completed
    pub known : is_between_epochs q.handshake ≡ false → c.known ≡ q.known
    pub held : c.held ≡ held_buffer {Reaped = Reaped} word_of_item buffer_of_item q
    pub head : is_serving q.handshake.controller ≡ true → c.head ≡ q.head
    pub state : c.state ≡ q.handshake.controller
    pub seen : c.seen ≡ q.handshake.seen
    pub barred : c.barred ≡ bars

  -- Words and slots are as the queue has them. There are `m` words, and those beyond `n` are registers.
  pub record IsLaidOutIn (n m : ℕ) (q : Queue Posted Completed Reaped) (quiet : ℕ) (words : List ℕ) (homes : List (maybe.Option Buffer)) : Type 0 where
    pub word_count : length words ≡ m
    pub slot_count : length homes ≡ n
    pub registers : HasRegisters n (registers_of q quiet) words
    pub items : HasItems {Reaped = Reaped} word_of_item buffer_of_item n q (slice_index words) (home_at homes)
    pub cleared : is_early q.handshake.driver ≡ true → is_serving q.handshake.controller ≡ false → q.head ≡ 0

-- The slots when a table is closed: the buffer of each item that is out and not held.
abbrev pub AllLeft : {Posted Completed Reaped : Type 0} → (Option Posted → Option Completed → Option Buffer) → ℕ → Queue Posted Completed Reaped → List Buffer → Type 0
AllLeft buffer_of_item n q slots = (k : ℕ) (b : Buffer) → returned_count q ≤ k → k < posted_count q → (q.held ≡ true → ¬ (k ≡ completed_count q))
    → buffer_of_item (slice_get q.ledger.posted k) (slice_get q.ledger.completed k) ≡ Some b → get_elem? slots (k % n) ≡ some b

-- The same, for the queue of one ring that both records agree with.
pub record LeftOf {Posted Completed Reaped : Type 0} (Of : Type 0) (queue_of : Of → Queue Posted Completed Reaped) (buffer_of_item : Option Posted → Option Completed → Option Buffer) (n : ℕ) (slots : List Buffer) : Type 0 where
  pub of_one_ring : Of
  pub buffers : AllLeft buffer_of_item n (queue_of of_one_ring) slots
