-- The rule of a receive ring's table: between any two steps, the words, the slots and both records agree with one ring
-- that a schedule reaches.
use Rattle.std.specs.Prelude.{◌≡◌, ℕ, ◌+◌, ◌%◌, true, List, [], length, Option, Some}
use mathlib.Core.Option as maybe
use Rattle.buffer_pool.specs.Buffer.{Buffer, buffer}
use Rattle.ring_model.specs.receive.Agreement.{rx_word_of_item, rx_buffer_of_item}
use Rattle.ring_model.specs.receive.Ring.{RxRing}
use Rattle.ring_model.specs.shared.Segments.{Segment, piece_of}
use Rattle.ring_model.specs.receive.Steps.{IsRxReachable}
use Rattle.ring_model.specs.receive.Laws.{rx_quiesced}
use Rattle.ring_model.specs.shared.Frames.{Bytes, AllFollow}
use Rattle.ring_model.specs.shared.Handshakes.{is_answered}
use Rattle.ring_model.specs.shared.Queue.{completed_count, reaped_count}
use Rattle.shared_ring.specs.LaidOut.{driven, IsControlled, IsLaidOutIn}
use Rattle.rx_ring.specs.Records.{DriverStep, ControllerStep, driving, controlling, Knowing, knowing}

-- The word of an item, and the buffer in its slot.
abbrev pub word_of_item : ℕ → Option ℕ → Option (Segment Bytes) → ℕ
word_of_item = rx_word_of_item {Payload = Bytes} length (λ b. buffer b []) buffer

abbrev pub buffer_of_item : Option ℕ → Option (Segment Bytes) → Option Buffer
buffer_of_item = rx_buffer_of_item {Payload = Bytes} length (λ b. buffer b []) buffer

-- What the driver has learned is true. The loaded head is the place after the last stored segment. After quiet was
-- loaded, the controller has said that it stores no more, and stores no more. If drained, all stored segments are
-- taken.
pub record Learnt (n : ℕ) (q : RxRing Bytes) (k : Knowing) : Type 0 where
  pub head : (place : ℕ) → k.head ≡ Some place → (is_answered q.handshake.driver ≡ true) × (place ≡ completed_count q.queue % n)
  pub quiet : k.quiet ≡ true → rx_quiesced q ≡ true
  pub said : k.quiet ≡ true → q.still ≡ true
  pub drained : k.drained ≡ true → (rx_quiesced q ≡ true) × (reaped_count q.queue ≡ completed_count q.queue)

-- The records are those of the ring `q`, and words and slots are as `q` has them.
pub record IsLaidOutAs (n : ℕ) (q : RxRing Bytes) (ds : List DriverStep) (cs : List ControllerStep) (words : List ℕ) (homes : List (maybe.Option Buffer)) : Type 0 where
  pub reachable : IsRxReachable Bytes n q
  pub driver : driving ds ≡ driven q.queue
  pub controller : IsControlled {Reaped = Segment Bytes} word_of_item buffer_of_item q.queue q.still (controlling n cs)
  pub laid_out : IsLaidOutIn {Reaped = Segment Bytes} word_of_item buffer_of_item n (n + 4) q.queue q.quiet words homes
  pub follow : AllFollow piece_of n q.ledger.completed
  pub learnt : Learnt n q (knowing ds)
