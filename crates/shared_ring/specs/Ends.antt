-- The contracts' view of a ring's two ends: its identity, how it reports, and the record of the end's own steps, with
-- words for its contents.
use Rattle.std.specs.Prelude.{ℕ, ◌+◌, ◌-◌, ◌%◌, Bool, List, [], ◌∷◌, ◌++◌, length, Option}
use Rattle.atomic_table.specs.Seated.{TableId}
use Rattle.buffer_pool.specs.Buffer.{Buffer}
use Rattle.ring_model.specs.declared.states.Completion.{Completion}
use Rattle.ring_model.specs.declared.states.DriverState.{DriverState}
use Rattle.ring_model.specs.declared.states.ControllerState.{ControllerState}
use Rattle.shared_ring.specs.declared.events.DriverEvent.{DriverEvent}
use Rattle.shared_ring.specs.declared.events.ControllerEvent.{ControllerEvent}
use Rattle.shared_ring.specs.Records.{Driven, Controlled, ends_whole}
use Rattle.shared_ring.specs.Forms.{Form, driving, knowing, controlling}

-- An end of a ring of either direction.
pub record Side (Event : Type 0) : Type 0 where
  pub table : TableId
  pub completion : Completion
  pub events : List Event

-- The end's record grows by one event.
abbrev pub grown : {Event : Type 0} → Side Event → Event → Side Event
grown s e = record s { events = s.events ++ e ∷ [] }

-- An end of a ring of one direction.
module _ {Ring Posted Completed Reaped D C : Type 0} (form : Form Ring Posted Completed Reaped D C) where
  pub record DriverSide : Type 0 where
    pub table : TableId
    pub completion : Completion
    pub events : List (DriverEvent D)

  pub record ControllerSide : Type 0 where
    pub table : TableId
    pub completion : Completion
    pub events : List (ControllerEvent C)

  abbrev pub driver_of : Side (DriverEvent D) → DriverSide
  driver_of s = record { table = s.table; completion = s.completion; events = s.events }

  abbrev pub driver_side : DriverSide → Side (DriverEvent D)
  driver_side d = record { table = d.table; completion = d.completion; events = d.events }

  abbrev pub controller_of : Side (ControllerEvent C) → ControllerSide
  controller_of s = record { table = s.table; completion = s.completion; events = s.events }

  abbrev pub controller_side : ControllerSide → Side (ControllerEvent C)
  controller_side c = record { table = c.table; completion = c.completion; events = c.events }

module _ {Ring Posted Completed Reaped D C : Type 0} {form : Form Ring Posted Completed Reaped D C} where
  -- The contents of a driver's end.
  abbrev pub driver_size : DriverSide form → ℕ
  driver_size d = d.table.slots

  -- Everything that the driver did in this epoch.
  abbrev pub driver_record : DriverSide form → Driven Posted Reaped
  driver_record d = driving form d.events

  abbrev pub posted : DriverSide form → List Posted
  posted d = (driving form d.events).posted

  abbrev pub published : DriverSide form → ℕ
  published d = (driving form d.events).published

  abbrev pub reaped : DriverSide form → List Reaped
  reaped d = (driving form d.events).reaped

  abbrev pub reclaimed : DriverSide form → ℕ
  reclaimed d = (driving form d.events).reclaimed

  -- The number of buffers that came back: reaped or reclaimed.
  abbrev pub returned : DriverSide form → ℕ
  returned d = length (reaped d) + reclaimed d

  abbrev pub driver_state : DriverSide form → DriverState
  driver_state d = (driving form d.events).state

  -- What the driver has learned of the controller in this epoch.
  abbrev pub known_of : (d : DriverSide form) → form.Known
  known_of d = knowing form d.events

  -- The next place to post, and the oldest place that is out.
  abbrev pub fill_place : DriverSide form → ℕ
  fill_place d = length (posted d) % driver_size d

  abbrev pub next_place : DriverSide form → ℕ
  next_place d = returned d % driver_size d

  abbrev pub driver_grown : DriverSide form → DriverEvent D → DriverSide form
  driver_grown d e = record d { events = d.events ++ e ∷ [] }

  -- The contents of a controller's end.
  abbrev pub controller_size : ControllerSide form → ℕ
  controller_size c = c.table.slots

  -- Everything that the controller did since it was enabled.
  abbrev pub controller_record : ControllerSide form → Controlled Completed
  controller_record c = controlling form (controller_size c) c.events

  abbrev pub completed : ControllerSide form → List Completed
  completed c = (controller_record c).completed

  -- The number of descriptors that the controller knows of and has not completed.
  abbrev pub known_ahead : ControllerSide form → ℕ
  known_ahead c = (controller_record c).known - length (completed c)

  -- The buffer that the controller fetched and still has.
  abbrev pub held : ControllerSide form → Option Buffer
  held c = (controller_record c).held

  abbrev pub controller_state : ControllerSide form → ControllerState
  controller_state c = (controller_record c).state

  -- The control value that the controller last loaded or answered.
  abbrev pub seen : ControllerSide form → ℕ
  seen c = (controller_record c).seen

  -- The head that the controller last stored.
  abbrev pub head_stored : ControllerSide form → ℕ
  head_stored c = (controller_record c).head

  -- Whether the controller may fetch no more for now.
  abbrev pub is_barred : ControllerSide form → Bool
  is_barred c = (controller_record c).barred

  -- Whether the last completed item ends a frame; true if there is none.
  abbrev pub is_at_frame_end : ControllerSide form → Bool
  is_at_frame_end c = ends_whole form.carries (completed c)

  abbrev pub serve_place : ControllerSide form → ℕ
  serve_place c = length (completed c) % controller_size c

  abbrev pub controller_grown : ControllerSide form → ControllerEvent C → ControllerSide form
  controller_grown c e = record c { events = c.events ++ e ∷ [] }
