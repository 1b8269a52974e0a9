-- A receive ring: a queue of buffers, by number, that become segments for the driver to take.
use Rattle.std.specs.Prelude.{ℕ, Bool, true, false, Option, slice_get, slice_index}
use Rattle.ring_model.specs.shared.Frames.{ends_frame}
use Rattle.ring_model.specs.shared.Queue.{Ledger, Queue, opening, reaped_count, completed_count}
use Rattle.ring_model.specs.shared.Segments.{Segment, ends_segment}

-- The numbers of the posted buffers, the segments that the controller stored, and those that the driver took.
abbrev pub RxLedger : Type 0 → Type 0
RxLedger Payload = Ledger ℕ (Segment Payload) (Segment Payload)

abbrev pub RxQueue : Type 0 → Type 0
RxQueue Payload = Queue ℕ (Segment Payload) (Segment Payload)

pub record RxRing (Payload : Type 0) : Type 0 where
  pub queue : RxQueue Payload
  pub open queue use *
  pub quiet : ℕ  -- the quiet word
  pub still : Bool  -- the controller said that it stores no more

-- A new ring of `n` places.
abbrev pub rx_opening : {Payload : Type 0} → ℕ → Bool → RxRing Payload
rx_opening n enabled = record { queue = opening n enabled; quiet = 0; still = false }

module _ {Payload : Type 0} where
  -- Whether the last stored segment ends a frame; true if there is none.
  abbrev pub is_whole : RxRing Payload → Bool
  is_whole r = ends_frame ends_segment true r.ledger.completed

  -- The segment that a store adds now: it uses the next posted buffer in order.
  abbrev pub next_segment : RxRing Payload → Payload → Bool → Segment Payload
  next_segment r x eop = record { number = slice_index r.ledger.posted (completed_count r.queue); payload = x; eop = eop }

  -- The next segment to take, if it is stored.
  abbrev pub due : RxRing Payload → Option (Segment Payload)
  due r = slice_get r.ledger.completed (reaped_count r.queue)
