-- How a queue of words and slots, whose places wrap, agrees with the unbounded queue.
use Rattle.std.specs.Prelude.{◌≡◌, ℕ, ◌%◌, Bool, true, false, ◌&&◌, ◌==◌, List, Option, Some, None, slice_get, slice_index, if◌then◌else◌}
use Rattle.ring_model.specs.declared.states.Owner.TheVariants.{Driver}
use Rattle.ring_model.specs.declared.handshake.Handshake.{Handshake}
use Rattle.ring_model.specs.shared.Lists.{EachItem, slot_at}
use Rattle.ring_model.specs.shared.Frames.{ends_frame}
use Rattle.ring_model.specs.shared.Handshakes.{is_between_epochs}
use Rattle.ring_model.specs.shared.Queue.{Queue, posted_count, completed_count, returned_count, next_head}

-- 1 for true, 0 for false. (A number under an `if` has no type.)
abbrev pub bit : Bool → ℕ
bit true = 1
bit false = 0

-- The word of item `k`, and its buffer, from what was posted and completed there.
module _ {Posted Completed Reaped Buffer : Type 0} (word_of_item : ℕ → Option Posted → Option Completed → ℕ) (buffer_of_item : Option Posted → Option Completed → Option Buffer) where
  abbrev pub wanted_word : Queue Posted Completed Reaped → ℕ → ℕ
  wanted_word q k = word_of_item k (slice_get q.ledger.posted k) (slice_get q.ledger.completed k)

  -- The slot at the place of item `k`: its buffer, or empty while the controller holds it.
  abbrev pub wanted_slot : Queue Posted Completed Reaped → ℕ → Option Buffer
  wanted_slot q k = if q.held && (k == completed_count q) then None else buffer_of_item (slice_get q.ledger.posted k) (slice_get q.ledger.completed k)

  -- Each item that is out has its word and its buffer. The driver's own places may hold anything.
  -- No worked row decides this; the proofs of `ring_machine` and `shared_ring` rely on it.
  pub record HasItems (n : ℕ) (q : Queue Posted Completed Reaped) (word : ℕ → ℕ) (slot : ℕ → Option Buffer) : Type 0 where
    pub words : EachItem n (returned_count q) (posted_count q) word (wanted_word q)
    pub slots : EachItem n (returned_count q) (posted_count q) slot (wanted_slot q)

  -- The buffer that the controller has fetched, if any.
  abbrev pub held_buffer : Queue Posted Completed Reaped → Option Buffer
  held_buffer q = if q.held then buffer_of_item (slice_get q.ledger.posted (completed_count q)) None else None

-- A queue as the two sides store it: places below n, one word per descriptor, and each side's own fields.
pub record Wrapped (Buffer : Type 0) : Type 0 where
  pub size : ℕ
  pub words : List ℕ
  pub head : ℕ
  pub tail : ℕ
  pub slots : List (Option Buffer)
  pub fill : ℕ  -- the driver's next place to post, and the next to take or clean
  pub next : ℕ
  pub serve : ℕ  -- the controller's next place to fetch, and the last tail that it loaded
  pub known : ℕ
  pub held : Option Buffer
  pub whole : Bool
  pub handshake : Handshake

-- `ends` says whether a completed item ends a frame.
module _ {Posted Completed Reaped Buffer : Type 0} (ends : Completed → Bool) (word_of_item : ℕ → Option Posted → Option Completed → ℕ) (buffer_of_item : Option Posted → Option Completed → Option Buffer) where
  -- Each item that is out has its word and its buffer, and the driver's slots are empty. Between a renewal and the
  -- answered enabling, the controller still has its places of the previous epoch.
  -- No worked row decides this; the proofs of `ring_machine` rely on it.
  pub record Agrees (w : Wrapped Buffer) (q : Queue Posted Completed Reaped) : Type 0 where
    pub size_is : w.size ≡ q.size
    pub head : w.head ≡ q.head
    pub tail : w.tail ≡ q.published % q.size
    pub items : HasItems {Reaped = Reaped} word_of_item buffer_of_item q.size q (slice_index w.words) (slot_at w.slots)
    pub empty : (place : ℕ) → slice_get q.owners place ≡ Some Driver → slot_at w.slots place ≡ None
    pub fill : w.fill ≡ posted_count q % q.size
    pub next : w.next ≡ returned_count q % q.size
    pub serve : is_between_epochs q.handshake ≡ false → w.serve ≡ next_head q
    pub known : is_between_epochs q.handshake ≡ false → w.known ≡ q.known % q.size
    pub held : w.held ≡ held_buffer {Reaped = Reaped} word_of_item buffer_of_item q
    pub whole : w.whole ≡ ends_frame ends true q.ledger.completed
    pub handshake : w.handshake ≡ q.handshake
