-- The common part of queues of both directions: unbounded lists, counts, an owner map and a handshake. Only the place
-- of an item wraps.
use Rattle.std.specs.Prelude.{ℕ, ◌+◌, ◌-◌, ◌%◌, Bool, true, false, not, ◌&&◌, ◌==◌, nat_lt, List, [], ◌∷◌, ◌++◌, length, replicate, slice_set, if◌then◌else◌}
use Rattle.ring_model.specs.declared.states.Owner.{Owner}
use Rattle.ring_model.specs.declared.states.Owner.TheVariants.{Driver, Ring, Controller}
use Rattle.ring_model.specs.declared.states.DriverState.TheVariants.{New, Cleared, Tailed}
use Rattle.ring_model.specs.declared.handshake.Handshake.{Handshake}
use Rattle.ring_model.specs.shared.QueueSteps.{QueueStep, Post, Publish, Look, Fetch, Complete, Head, Reap, Controls, Reclaim, ClearHead, ClearTail, Renew}
use Rattle.ring_model.specs.shared.Frames.{ends_frame}
use Rattle.ring_model.specs.shared.Handshakes.{first_handshake, is_cleared, is_live, is_open, is_serving, is_stopped, is_tailed, enables, may_control_step, after_control_step}

-- What the driver posted; what the controller completed, by storing or sending; and what the driver reaped, by
-- taking or cleaning.
pub record Ledger (Posted Completed Reaped : Type 0) : Type 0 where
  pub posted : List Posted
  pub completed : List Completed
  pub reaped : List Reaped

pub record Queue (Posted Completed Reaped : Type 0) : Type 0 where
  pub size : ℕ
  pub past : List (Ledger Posted Completed Reaped)  -- the ledgers of the epochs that ended
  pub ledger : Ledger Posted Completed Reaped  -- of this epoch
  pub owners : List Owner
  pub published : ℕ  -- counts of items of this epoch's ledger
  pub known : ℕ
  pub reclaimed : ℕ
  pub head : ℕ  -- a place
  pub held : Bool
  pub handshake : Handshake

module _ {Posted Completed Reaped : Type 0} where
  abbrev pub no_ledger : Ledger Posted Completed Reaped
  no_ledger = record { posted = []; completed = []; reaped = [] }

  -- A new queue of `n` places, all of them the driver's.
  abbrev pub opening : ℕ → Bool → Queue Posted Completed Reaped
  opening n enabled = record {
    size = n;
    past = [];
    ledger = no_ledger;
    owners = replicate n Driver;
    published = 0;
    known = 0;
    reclaimed = 0;
    head = 0;
    held = false;
    handshake = first_handshake enabled;
  }

  abbrev pub posted_count : Queue Posted Completed Reaped → ℕ
  posted_count q = length q.ledger.posted

  abbrev pub completed_count : Queue Posted Completed Reaped → ℕ
  completed_count q = length q.ledger.completed

  abbrev pub reaped_count : Queue Posted Completed Reaped → ℕ
  reaped_count q = length q.ledger.reaped

  -- The number of items that are back with the driver: reaped or reclaimed.
  abbrev pub returned_count : Queue Posted Completed Reaped → ℕ
  returned_count q = reaped_count q + q.reclaimed

  -- The place after the last completed item.
  abbrev pub next_head : Queue Posted Completed Reaped → ℕ
  next_head q = completed_count q % q.size

  -- A disabling may be answered: nothing is held, the head is stored, and the last completed item ends a frame.
  abbrev pub is_settled : (Completed → Bool) → Queue Posted Completed Reaped → Bool
  is_settled ends q = not q.held && (q.head == next_head q) && ends_frame ends true q.ledger.completed

  -- The owners after the place of item `k` passes to `who`.
  abbrev pub passed_to : Owner → Queue Posted Completed Reaped → ℕ → List Owner
  passed_to who q k = slice_set q.owners (k % q.size) who

  -- No worked row decides `Give`, which both rings replace by a condition of their own; the laws' proofs rely on it.
  abbrev pub may : Queue Posted Completed Reaped → QueueStep Posted Completed Reaped → Bool
  may q (Post x) = is_open q.handshake.driver && nat_lt (posted_count q - reaped_count q) (q.size - 1)
  may q Publish = is_open q.handshake.driver
  may q Look = is_serving q.handshake.controller
  may q Fetch = is_serving q.handshake.controller && not q.held && nat_lt (completed_count q) q.known
  may q (Complete x) = q.held
  may q Head = is_serving q.handshake.controller && not q.held
  may q (Reap x) = is_live q.handshake.driver && nat_lt (reaped_count q) (completed_count q)
  may q (Controls c settled) = may_control_step q.handshake c settled
  may q Reclaim = is_stopped q.handshake.driver && nat_lt (returned_count q) (posted_count q)
  may q ClearHead = is_stopped q.handshake.driver && (returned_count q == posted_count q)
  may q ClearTail = is_cleared q.handshake.driver
  may q Renew = is_tailed q.handshake.driver

  -- No worked row decides whether `Renew` keeps `known`: it is set to 0 before anything is fetched again.
  abbrev pub by : Queue Posted Completed Reaped → QueueStep Posted Completed Reaped → Queue Posted Completed Reaped
  by q (Post x) = record q { ledger = record q.ledger { posted = q.ledger.posted ++ x ∷ [] }; owners = passed_to Ring q (posted_count q) }
  by q Publish = record q { published = posted_count q }
  by q Look = record q { known = q.published }
  by q Fetch = record q { owners = passed_to Controller q (completed_count q); held = true }
  by q (Complete x) = record q { ledger = record q.ledger { completed = q.ledger.completed ++ x ∷ [] }; owners = passed_to Ring q (completed_count q); held = false }
  by q Head = record q { head = next_head q }
  by q (Reap x) = record q { ledger = record q.ledger { reaped = q.ledger.reaped ++ x ∷ [] }; owners = passed_to Driver q (reaped_count q) }
  by q (Controls c settled) = record q { known = if enables q.handshake c then 0 else q.known; handshake = after_control_step q.handshake c }
  by q Reclaim = record q { owners = passed_to Driver q (returned_count q); reclaimed = q.reclaimed + 1 }
  by q ClearHead = record q { head = 0; handshake = record q.handshake { driver = Cleared } }
  by q ClearTail = record q { published = 0; handshake = record q.handshake { driver = Tailed } }
  by q Renew = record q { past = q.past ++ q.ledger ∷ []; ledger = no_ledger; reclaimed = 0; handshake = record q.handshake { driver = New } }
