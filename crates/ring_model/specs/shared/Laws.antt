-- Settled and lasting facts: the counts of an epoch are in order, its lists only grow, a finished list never changes,
-- and neither do ended epochs.
use Rattle.std.specs.Prelude.{◌≡◌, ℕ, ◌<◌, ◌≤◌, ◌⊎◌, Bool, true, false, ◌||◌, List, ◌∷◌, ◌++◌}
use Rattle.ring_model.specs.declared.states.DriverState.{DriverState}
use Rattle.ring_model.specs.declared.states.DriverState.TheVariants.{New, Asked, On, Stopping, Stopped, Cleared, Tailed}
use Rattle.ring_model.specs.declared.states.ControllerState.{ControllerState}
use Rattle.ring_model.specs.declared.states.ControllerState.TheVariants.{Off, Serving, Ended}
use Rattle.ring_model.specs.shared.Lists.{IsBeginning}
use Rattle.ring_model.specs.shared.Handshakes.{is_answered, is_emptied, is_ended, is_live, is_open, is_serving, is_stopped}
use Rattle.ring_model.specs.shared.Queue.{Ledger, Queue, posted_count, completed_count, reaped_count, returned_count, next_head}

-- The control words, and the values that the controller last saw, that fit the two states. Other pairs of states do not
-- occur. No worked row decides this; `control_words_fit` proves it of every reachable ring.
abbrev pub ControlFits : DriverState → ControllerState → ℕ → ℕ → Type 0
ControlFits New Off control seen = (control ≡ 0) × (seen ≡ 0)
ControlFits New Ended control seen = (control ≡ 0) × (seen ≡ 0)
ControlFits Asked Off control seen = (control ≡ 1) × (seen ≤ 1)
ControlFits Asked Ended control seen = (control ≡ 1) × (seen ≤ 1)
ControlFits Asked Serving control seen = (control ≡ 2) × (seen ≡ 2)
ControlFits On Serving control seen = (control ≡ 2) × (seen ≡ 2)
ControlFits Stopping Serving control seen = (control ≡ 3) × (2 ≤ seen) × (seen ≤ 3)
ControlFits Stopping Ended control seen = (control ≡ 0) × (seen ≡ 0)
ControlFits Stopped Ended control seen = (control ≡ 0) × (seen ≡ 0)
ControlFits Cleared Ended control seen = (control ≡ 0) × (seen ≡ 0)
ControlFits Tailed Ended control seen = (control ≡ 0) × (seen ≡ 0)
ControlFits _ _ control seen = ⊥

module _ {Posted Completed Reaped : Type 0} where
  -- Reaped items were completed, and completed items were posted. While the controller serves, it knows of all items that
  -- it completed or holds, and of no more than are published. Nothing is reclaimed before a disabling is seen answered.
  -- Nothing is completed before the enabling is answered. All items are back once the head is cleared.
  -- No worked row decides this; `counts_are_ordered` proves it of every reachable ring.
  pub record IsOrdered (q : Queue Posted Completed Reaped) : Type 0 where
    pub reaped_completed : reaped_count q ≤ completed_count q
    pub completed_posted : completed_count q ≤ posted_count q
    pub returned_posted : returned_count q ≤ posted_count q
    pub published_posted : q.published ≤ posted_count q
    pub known_published : is_serving q.handshake.controller ≡ true → q.known ≤ q.published
    pub completed_known : is_serving q.handshake.controller ≡ true → completed_count q ≤ q.known
    pub held_known : q.held ≡ true → completed_count q < q.known
    pub held_serving : q.held ≡ true → is_serving q.handshake.controller ≡ true
    pub not_reclaimed : is_answered q.handshake.driver ≡ false → q.reclaimed ≡ 0
    pub none_completed : is_serving q.handshake.controller ≡ false → is_open q.handshake.driver ≡ true → completed_count q ≡ 0
    pub all_back : is_emptied q.handshake.driver ≡ true → returned_count q ≡ posted_count q

  -- If the driver saw its disabling answered, the controller has ended. Once the controller has answered, the head is
  -- the place after the last completed item until it is cleared.
  -- No worked row decides this; `rings_are_concluded` proves it of every reachable ring.
  pub record IsConcluded (q : Queue Posted Completed Reaped) : Type 0 where
    pub ended : is_answered q.handshake.driver ≡ true → is_ended q.handshake.controller ≡ true
    pub head : is_ended q.handshake.controller ≡ true → (is_live q.handshake.driver || is_stopped q.handshake.driver) ≡ true → q.head ≡ next_head q

  -- Nothing in a ledger is ever changed or lost.
  -- No worked row decides this; `epochs_are_fixed` proves it of every continued schedule.
  pub record IsGrown (before later : Ledger Posted Completed Reaped) : Type 0 where
    pub posted : IsBeginning before.posted later.posted
    pub completed : IsBeginning before.completed later.completed
    pub reaped : IsBeginning before.reaped later.reaped

  -- A later epoch: the first queue's epoch has ended and is among the past ones, with every list that was fixed
  -- unchanged. `quiesced` says that its controller completes no more.
  -- No worked row decides this; `epochs_are_fixed` proves it of every continued schedule.
  pub record NewEpoch (q : Queue Posted Completed Reaped) (quiesced : Bool) (later : Queue Posted Completed Reaped) : Type 0 where
    pub ended : Ledger Posted Completed Reaped
    pub more : List (Ledger Posted Completed Reaped)
    pub past : q.past ++ (ended ∷ more) ≡ later.past
    pub grown : IsGrown q.ledger ended
    pub posted : is_open q.handshake.driver ≡ false → ended.posted ≡ q.ledger.posted
    pub completed : quiesced ≡ true → ended.completed ≡ q.ledger.completed
    pub reaped : is_answered q.handshake.driver ≡ true → ended.reaped ≡ q.ledger.reaped

  -- The same epoch. Posted is fixed once the driver is no longer open, completed once the controller is quiesced, and
  -- reaped once the disabling was seen answered.
  -- No worked row decides this; `epochs_are_fixed` proves it of every continued schedule.
  pub record SameEpoch (q : Queue Posted Completed Reaped) (quiesced : Bool) (later : Queue Posted Completed Reaped) (still_quiesced : Bool) : Type 0 where
    pub past : later.past ≡ q.past
    pub grown : IsGrown q.ledger later.ledger
    pub posted : is_open q.handshake.driver ≡ false → (later.ledger.posted ≡ q.ledger.posted) × (is_open later.handshake.driver ≡ false)
    pub completed : quiesced ≡ true → (later.ledger.completed ≡ q.ledger.completed) × (still_quiesced ≡ true)
    pub reaped : is_answered q.handshake.driver ≡ true → (later.ledger.reaped ≡ q.ledger.reaped) × (is_answered later.handshake.driver ≡ true)

  abbrev pub Later : Queue Posted Completed Reaped → Bool → Queue Posted Completed Reaped → Bool → Type 0
  Later q quiesced later still_quiesced = NewEpoch q quiesced later ⊎ SameEpoch q quiesced later still_quiesced
