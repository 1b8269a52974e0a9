-- The invariants of a ring and its two seats, and the rule of its table.
use Rattle.std.specs.Prelude.{◌≡◌, ℕ, ◌≤◌, [], List, Option}
use Rattle.atomic_table.specs.Table.{State}
use Rattle.atomic_table.specs.Seated.{TableId}
use Rattle.buffer_pool.specs.Buffer.{Buffer}
use Rattle.limits.specs.RingLength.{IsRingLength}
use Rattle.ring_model.specs.declared.states.Completion.{Completion}
use Rattle.shared_ring.specs.declared.events.DriverEvent.{DriverEvent}
use Rattle.shared_ring.specs.declared.events.ControllerEvent.{ControllerEvent}
use Rattle.shared_ring.specs.declared.events.View.{View}
use Rattle.shared_ring.specs.Directions.{IsDirection}
use Rattle.shared_ring.specs.Forms.{Form}
use Rattle.shared_ring.specs.Plays.{End, Seated, driver_end, controller_end}
use Rattle.shared_ring.specs.Tables.{IsRuledBy, IsTableOf, words_of}

module _ {Ring Posted Completed Reaped D C : Type 0} (form : Form Ring Posted Completed Reaped D C) where
  -- The rule of the table of a ring of `n` places.
  abbrev pub IsRuled : ℕ → Completion → State Buffer (View (DriverEvent D) (ControllerEvent C)) → Type 0
  IsRuled n mode s = IsRuledBy (form.IsLaidOut n mode) n (words_of n mode) s

  -- A ring's table, and empty room for all its buffers.
  pub record IsRing (table : TableId) (key : ℕ × Completion) (room : List (Option Buffer)) (capacity : ℕ) : Type 0 where
    pub law : IsDirection form
    pub of_key : IsTableOf table key.0 key.1
    pub empty : room ≡ []
    pub room_is : key.0 ≤ capacity

  -- The seat of an end has the slots that follow from its record.
  pub record IsSeat {E : Type 0} (whose : End (View (DriverEvent D) (ControllerEvent C)) E) (table : TableId) (me : Seated (DriverEvent D) (ControllerEvent C)) (size : ℕ) (mode : Completion) : Type 0 where
    pub law : IsDirection form
    pub size_is : table.slots ≡ size
    pub words : table.words ≡ words_of size mode
    pub lawful : IsRingLength size
    pub me_is : me ≡ (whose.seat (whose.part me.0), whose.slots size (whose.part me.0))
    pub stands : whose.Stands size (whose.part me.0)

  abbrev pub IsDriverSeat : TableId → Seated (DriverEvent D) (ControllerEvent C) → ℕ → Completion → Type 0
  IsDriverSeat table me size mode = IsSeat (driver_end form) table me size mode

  abbrev pub IsControllerSeat : TableId → Seated (DriverEvent D) (ControllerEvent C) → ℕ → Completion → Type 0
  IsControllerSeat table me size mode = IsSeat (controller_end form) table me size mode
