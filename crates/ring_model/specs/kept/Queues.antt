-- The invariants of the steps of a queue, in both directions. They imply the laws, and the facts that running rings
-- need about a reachable ring.
use Rattle.std.specs.Prelude.{◌≡◌, ℕ, ◌+◌, ◌<◌, ◌≤◌, Bool, true, false}
use Rattle.ring_model.specs.declared.handshake.Handshake.{Handshake}
use Rattle.ring_model.specs.shared.Frames.{ends_frame}
use Rattle.ring_model.specs.shared.Handshakes.{is_open, is_answered, is_emptied, is_serving, is_ended, is_tailed, has_ended}
use Rattle.ring_model.specs.shared.Queue.{Queue, posted_count, completed_count, reaped_count, next_head}
use Rattle.ring_model.specs.shared.Lawful.{IsLawfulMap, window}
use Rattle.ring_model.specs.shared.Laws.{ControlFits}

pub record HandshakeFits (h : Handshake) : Type 0 where
  pub control_fits : ControlFits h.driver h.controller h.control h.seen

-- The counts of an epoch's items, in order.
pub record InCount (n posted completed reaped reclaimed : ℕ) : Type 0 where
  pub reaped_completed : reaped ≤ completed
  pub completed_posted : completed ≤ posted
  pub returned_posted : reaped + reclaimed ≤ posted
  pub room : posted < reaped + n

-- The published count, and what a serving controller knows and holds of the published items.
pub record InSight (posted completed published known : ℕ) (held : Bool) (h : Handshake) : Type 0 where
  pub published_posted : published ≤ posted
  pub known_published : is_serving h.controller ≡ true → known ≤ published
  pub completed_known : is_serving h.controller ≡ true → completed ≤ known
  pub held_known : held ≡ true → completed < known
  pub held_serving : held ≡ true → is_serving h.controller ≡ true

-- What the states of the handshake imply for the counts.
pub record InState (posted completed reaped published reclaimed : ℕ) (h : Handshake) : Type 0 where
  pub not_reclaimed : is_answered h.driver ≡ false → reclaimed ≡ 0
  pub none_completed : is_serving h.controller ≡ false → is_open h.driver ≡ true → completed ≡ 0
  pub all_back : is_emptied h.driver ≡ true → reaped + reclaimed ≡ posted
  pub tail_cleared : is_tailed h.driver ≡ true → published ≡ 0

-- All facts about the counts of an epoch.
pub record InOrder (n posted completed reaped published known reclaimed : ℕ) (held : Bool) (h : Handshake) : Type 0 where
  pub count : InCount n posted completed reaped reclaimed
  pub open count use *
  pub sight : InSight posted completed published known held h
  pub open sight use *
  pub state : InState posted completed reaped published reclaimed h
  pub open state use *

-- The invariant of a queue. `ends` says whether a completed item ends a frame.
pub record IsKept {Posted Completed Reaped : Type 0} (n : ℕ) (ends : Completed → Bool) (q : Queue Posted Completed Reaped) : Type 0 where
  pub size_is : q.size ≡ n
  pub places : 1 < n
  pub handshake_fits : HandshakeFits q.handshake
  pub order : InOrder n (posted_count q) (completed_count q) (reaped_count q) q.published q.known q.reclaimed q.held q.handshake
  pub map : IsLawfulMap (window q) q.owners
  pub whole : has_ended q.handshake ≡ true → ends_frame ends true q.ledger.completed ≡ true
  pub told : is_ended q.handshake.controller ≡ true → is_open q.handshake.driver ≡ false → is_emptied q.handshake.driver ≡ false → q.head ≡ next_head q
