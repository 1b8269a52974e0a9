-- The parts of the transmit direction.
use Rattle.std.specs.Prelude.{◌≡◌, ℕ, ◌+◌, ◌<◌, true, false, List, length}
use Rattle.buffer_pool.specs.Buffer.{Buffer, buffer}
use Rattle.ring_model.specs.shared.Frames.{Bytes, unfinished}
use Rattle.ring_model.specs.transmit.Agreement.{tx_word}
use Rattle.ring_model.specs.transmit.Frames.{MayFollow}
use Rattle.ring_model.specs.transmit.Lawful.{IsLawfulTx}
use Rattle.ring_model.specs.transmit.Ring.{TxRing, are_whole, carried}
use Rattle.ring_model.specs.transmit.Steps.{IsTxReachable, by_head}
use Rattle.shared_ring.specs.Forms.{Form}
use Rattle.shared_ring.specs.LaidOut.{driven, IsControlled, LeftOf}
use Rattle.tx_ring.specs.declared.events.TxDriverOwn.{TxDriverOwn}
use Rattle.tx_ring.specs.declared.events.TxControllerOwn.{TxControllerOwn}
use Rattle.descriptor.specs.Transmit.{eop_of, rs_of, paylen_of}
use Rattle.tx_ring.specs.Records.{Posting, TxControlled, DriverStep, ControllerStep, driving, controlling, knowing, posting_of, reading}
use Rattle.tx_ring.specs.Rule.{Learnt, IsLaidOutAs, filled, word_of_item, buffer_of_item, word_of}

-- Both records are those of one lawful ring that a schedule reaches, and what the driver has learned is true of it.
pub record AreOf (n : ℕ) (ds : List DriverStep) (cs : List ControllerStep) : Type 0 where
  pub queue : TxRing Bytes
  pub reachable : IsTxReachable Bytes n queue
  pub driver : driving ds ≡ driven queue.queue
  pub controller : IsControlled {Reaped = ℕ} (word_of_item queue) buffer_of_item queue.queue queue.owed (controlling n cs)
  pub learnt : Learnt n queue (knowing ds)
  pub lawful : IsLawfulTx Bytes queue
  pub size_is : queue.size ≡ n

-- The word and buffer of a posting that may follow the posted items.
pub record IsPosting (n : ℕ) (xs : List Posting) (word : ℕ) (b : Buffer) : Type 0 where
  pub item : Posting
  pub word_is : word ≡ word_of item
  pub buffer_is : b ≡ filled item
  pub follows : MayFollow n (unfinished carried xs) item

-- The word has the buffer's length, the posting may follow the frame so far, and if it does not end its frame, the
-- controller knows of more.
pub record IsFetchedAs (n : ℕ) (c : TxControlled) (word : ℕ) (b : Buffer) : Type 0 where
  pub word_is : word ≡ tx_word (length b.bytes) (eop_of word) (rs_of word) (paylen_of word)
  pub real : b ≡ buffer b.number b.bytes
  pub follows : MayFollow n (unfinished carried c.completed) (posting_of word b)
  pub ready : eop_of word ≡ false → length c.completed + 1 < c.known

-- Whole frames are published. A disabling is answered after a whole frame, with no report owed.
abbrev pub tx : Form (TxRing Bytes) Posting Posting ℕ TxDriverOwn TxControllerOwn
tx = record {
  reading = reading;
  carries = carried;
  Reports = λ mode. Unit {0};
  MayPost = IsPosting;
  MayPublish = λ xs. are_whole xs ≡ true;
  MayClearTail = λ mode. by_head mode ≡ true;
  MayDisable = λ c. (are_whole c.completed ≡ true) × (c.barred ≡ false);
  IsFetched = IsFetchedAs;
  IsOf = λ p b. b ≡ filled p;
  IsLaidOut = IsLaidOutAs;
  AreOf = AreOf;
  LeftIn = λ n ds cs slots. LeftOf (AreOf n ds cs) (λ a. a.queue.queue) buffer_of_item n slots;
}
