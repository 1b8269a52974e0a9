-- The parts of the receive direction.
use Rattle.std.specs.Prelude.{◌≡◌, ℕ, true, List, []}
use mathlib.Core.Option as maybe
use Rattle.buffer_pool.specs.Buffer.{Buffer, buffer}
use Rattle.ring_model.specs.declared.states.Completion.{Completion}
use Rattle.ring_model.specs.declared.states.Completion.TheVariants.{Status}
use Rattle.ring_model.specs.receive.Ring.{RxRing}
use Rattle.ring_model.specs.shared.Segments.{Segment, ends_segment, piece_of}
use Rattle.ring_model.specs.receive.Steps.{IsRxReachable}
use Rattle.ring_model.specs.receive.Lawful.{IsLawfulRx}
use Rattle.ring_model.specs.shared.Frames.{Bytes, ends_frame}
use Rattle.shared_ring.specs.Forms.{Form}
use Rattle.shared_ring.specs.LaidOut.{driven, IsControlled, LeftOf}
use Rattle.rx_ring.specs.declared.events.RxDriverOwn.{RxDriverOwn}
use Rattle.rx_ring.specs.declared.events.RxControllerOwn.{RxControllerOwn}
use Rattle.rx_ring.specs.Records.{DriverStep, ControllerStep, driving, controlling, knowing, reading}
use Rattle.rx_ring.specs.Rule.{Learnt, IsLaidOutAs, word_of_item, buffer_of_item}

-- Both records are those of one lawful ring that a schedule reaches, and what the driver has learned is true of it.
pub record AreOf (n : ℕ) (ds : List DriverStep) (cs : List ControllerStep) : Type 0 where
  pub queue : RxRing Bytes
  pub reachable : IsRxReachable Bytes n queue
  pub driver : driving ds ≡ driven queue.queue
  pub controller : IsControlled {Reaped = _} word_of_item buffer_of_item queue.queue queue.still (controlling n cs)
  pub learnt : Learnt n queue (knowing ds)
  pub lawful : IsLawfulRx Bytes queue
  pub size_is : queue.size ≡ n

-- A receive ring reports in its descriptors.
pub record RxLaidOut (n : ℕ) (mode : Completion) (q : RxRing Bytes) (ds : List DriverStep) (cs : List ControllerStep) (words : List ℕ) (homes : List (maybe.Option Buffer)) : Type 0 where
  pub reports : mode ≡ Status
  pub laid_out : IsLaidOutAs n q ds cs words homes

-- An empty buffer is posted with a descriptor of 0, is fetched so, and comes back with its number.
abbrev pub rx : Form (RxRing Bytes) ℕ (Segment Bytes) (Segment Bytes) RxDriverOwn RxControllerOwn
rx = record {
  reading = reading;
  carries = piece_of;
  Reports = λ mode. mode ≡ Status;
  MayPost = λ n xs word b. (word ≡ 0) × (b ≡ buffer b.number []);
  MayPublish = λ xs. Unit {0};
  MayClearTail = λ mode. Unit {0};
  MayDisable = λ c. ends_frame ends_segment true c.completed ≡ true;
  IsFetched = λ n c word b. (word ≡ 0) × (b ≡ buffer b.number []);
  IsOf = λ k b. (k ≡ b.number) × (b ≡ buffer b.number b.bytes);
  IsLaidOut = RxLaidOut;
  AreOf = AreOf;
  LeftIn = λ n ds cs slots. LeftOf (AreOf n ds cs) (λ a. a.queue.queue) buffer_of_item n slots;
}
