-- A transmit ring: a queue of postings that the controller sends, and whose buffers the driver takes back.
use Rattle.std.specs.Prelude.{ℕ, Bool, true, false, List, Option, slice_get}
use Rattle.ring_model.specs.declared.states.Completion.{Completion}
use Rattle.ring_model.specs.shared.Frames.{Bytes, Piece, ends_frame}
use Rattle.ring_model.specs.shared.Queue.{Ledger, Queue, opening, reaped_count, completed_count}
use Rattle.ring_model.specs.shared.Segments.{Segment, piece_of, ends_segment, number_of_segment}

-- What the driver posts: a segment, whether it asks for a report (RS), and the length of the whole frame (PAYLEN).
pub record Posting (Payload : Type 0) : Type 0 where
  pub segment : Segment Payload
  pub open segment use *
  pub rs : Bool
  pub paylen : ℕ

abbrev pub new_posting : {Payload : Type 0} → ℕ → Payload → Bool → Bool → ℕ → Posting Payload
new_posting number payload eop rs paylen = record { segment = record { number = number; payload = payload; eop = eop }; rs = rs; paylen = paylen }

abbrev pub ends_posting : {Payload : Type 0} → Posting Payload → Bool
ends_posting p = ends_segment p.segment

abbrev pub number_of_posting : {Payload : Type 0} → Posting Payload → ℕ
number_of_posting p = number_of_segment p.segment

abbrev pub carried : Posting Bytes → Piece
carried p = piece_of p.segment

-- The postings, those that the controller sent, and the numbers of the buffers that the driver took back.
abbrev pub TxLedger : Type 0 → Type 0
TxLedger Payload = Ledger (Posting Payload) (Posting Payload) ℕ

abbrev pub TxQueue : Type 0 → Type 0
TxQueue Payload = Queue (Posting Payload) (Posting Payload) ℕ

pub record TxRing (Payload : Type 0) : Type 0 where
  pub queue : TxQueue Payload
  pub open queue use *
  pub completion : Completion
  pub reported : ℕ  -- counts of items
  pub seen_reported : ℕ
  pub owed : Bool  -- a report, of the last that was sent

-- How a transmit ring begins.
pub record TxBeginning : Type 0 where
  pub enabled : Bool
  pub completion : Completion

-- A new ring of `n` places.
abbrev pub tx_opening : {Payload : Type 0} → ℕ → TxBeginning → TxRing Payload
tx_opening n b = record { queue = opening n b.enabled; completion = b.completion; reported = 0; seen_reported = 0; owed = false }

module _ {Payload : Type 0} where
  -- Whether the last posting of the list ends a frame; true if there is none.
  abbrev pub are_whole : List (Posting Payload) → Bool
  are_whole ps = ends_frame ends_posting true ps

  -- The next posting to send, in order.
  abbrev pub next_posting : TxRing Payload → Option (Posting Payload)
  next_posting r = slice_get r.ledger.posted (completed_count r.queue)

  -- The next posting to clean, in order.
  abbrev pub next_sent : TxRing Payload → Option (Posting Payload)
  next_sent r = slice_get r.ledger.completed (reaped_count r.queue)
