-- The rule of a transmit ring's table: between any two steps, the words, the slots and both records agree with one ring
-- that a schedule reaches. It is the same for both ways to report.
use Rattle.std.specs.Prelude.{◌≡◌, ℕ, ◌%◌, Bool, true, List, length, Option, Some, take, slice_get, slice_index}
use mathlib.Core.Option as maybe
use Rattle.buffer_pool.specs.Buffer.{Buffer, buffer}
use Rattle.ring_model.specs.declared.states.Completion.{Completion}
use Rattle.ring_model.specs.shared.Frames.{Bytes}
use Rattle.ring_model.specs.shared.Handshakes.{is_answered, is_serving}
use Rattle.ring_model.specs.shared.Queue.{completed_count}
use Rattle.ring_model.specs.transmit.Agreement.{is_told, tx_buffer_of_item, tx_word_of_item, tx_word}
use Rattle.ring_model.specs.transmit.Frames.{AllMayFollow}
use Rattle.ring_model.specs.transmit.Ring.{TxRing, are_whole}
use Rattle.ring_model.specs.transmit.Steps.{IsTxReachable, by_head}
use Rattle.shared_ring.specs.LaidOut.{driven, IsControlled, IsLaidOutIn}
use Rattle.shared_ring.specs.Registers.{report_index}
use Rattle.shared_ring.specs.Tables.{words_of}
use Rattle.tx_ring.specs.Records.{Posting, DriverStep, ControllerStep, driving, controlling, fetched_word, Knowing, knowing}

-- A buffer with the posted contents.
abbrev pub filled : Posting → Buffer
filled p = buffer p.number p.payload

-- The second word of a posting's descriptor.
abbrev pub word_of : Posting → ℕ
word_of p = tx_word (length p.payload) p.eop p.rs p.paylen

-- The word of an item, and the buffer in its slot.
abbrev pub word_of_item : TxRing Bytes → ℕ → Option Posting → Option Posting → ℕ
word_of_item q = tx_word_of_item {Payload = Bytes} length filled (is_told q)

abbrev pub buffer_of_item : Option Posting → Option Posting → Option Buffer
buffer_of_item = tx_buffer_of_item {Payload = Bytes} length filled

-- The head word of reports holds the place up to which all items are reported.
abbrev pub TellsReports : ℕ → Completion → ℕ → List ℕ → Type 0
TellsReports n mode reported words = by_head mode ≡ true → slice_index words (report_index n) ≡ reported % n

-- While a buffer is held, the fetched word is that of its posting.
abbrev pub IsFetched : ℕ → Bool → List Posting → List Posting → Type 0
IsFetched word held posted completed = (p : Posting) → held ≡ true → slice_get posted (length completed) ≡ Some p → word ≡ word_of p

-- The postings that the controller knows to be ready end with a whole frame.
abbrev pub IsReady : Bool → ℕ → List Posting → Type 0
IsReady serving known posted = serving ≡ true → are_whole (take known posted) ≡ true

-- What the driver has learned is true: the loaded head is the place after the last sent item, and `seen` items are seen
-- reported.
pub record Learnt (n : ℕ) (q : TxRing Bytes) (k : Knowing) : Type 0 where
  pub head : (place : ℕ) → k.head ≡ Some place → (is_answered q.handshake.driver ≡ true) × (place ≡ completed_count q.queue % n)
  pub seen : k.seen ≡ q.seen_reported

-- The records are those of the ring `q`, and words and slots are as `q` has them.
pub record IsLaidOutAs (n : ℕ) (mode : Completion) (q : TxRing Bytes) (ds : List DriverStep) (cs : List ControllerStep) (words : List ℕ) (homes : List (maybe.Option Buffer)) : Type 0 where
  pub reachable : IsTxReachable Bytes n q
  pub completion : q.completion ≡ mode
  pub driver : driving ds ≡ driven q.queue
  pub controller : IsControlled {Reaped = ℕ} (word_of_item q) buffer_of_item q.queue q.owed (controlling n cs)
  pub laid_out : IsLaidOutIn {Reaped = ℕ} (word_of_item q) buffer_of_item n (words_of n mode) q.queue 0 words homes
  pub reports : TellsReports n mode q.reported words
  pub fetched : IsFetched (fetched_word cs) q.held q.ledger.posted q.ledger.completed
  pub ready : IsReady (is_serving q.handshake.controller) q.known q.ledger.posted
  pub follow : AllMayFollow n q.ledger.posted
  pub learnt : Learnt n q (knowing ds)
