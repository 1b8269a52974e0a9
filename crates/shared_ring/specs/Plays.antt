-- The effect of a step on the table, by either end: its record gets one more event, with the value found and what the
-- rule says of it.
use Rattle.std.specs.Prelude.{◌≡◌, ℕ, ◌<◌, ◌≤◌, Bool, true, false, List, [], ◌∷◌, ◌++◌, length, ◌==◌, if◌then◌else◌}
use Rattle.atomic_table.specs.Table.{Me, Step, rest}
use Rattle.buffer_pool.specs.Buffer.{Buffer, blank}
use Rattle.shared_ring.specs.declared.events.DriverEvent.{DriverEvent}
use Rattle.shared_ring.specs.declared.events.DriverEvent.TheVariants.{AskedEnable, AskedDisable}
use Rattle.shared_ring.specs.declared.events.ControllerEvent.{ControllerEvent}
use Rattle.shared_ring.specs.declared.events.ControllerEvent.TheVariants.{Enabled, Disabled}
use Rattle.shared_ring.specs.declared.events.View.{View}
use Rattle.shared_ring.specs.declared.events.View.TheVariants.{Driver, Controller, Both}
use Rattle.shared_ring.specs.Accesses.{Kind, Load, Store, Access}
use Rattle.shared_ring.specs.Forms.{Form, driving, controlling, driver_access, controller_access}
use Rattle.shared_ring.specs.Own.{Event, Tells}
use Rattle.shared_ring.specs.Records.{count_at, driver_slots, controller_slots, IsWindow}
use Rattle.shared_ring.specs.Seats.{driver_part, controller_part}
use Rattle.shared_ring.specs.Slots.{front_buffer, empty_slots}

abbrev pub Seated : Type 0 → Type 0 → Type 0
Seated D C = Me Buffer (View D C)

-- A seat at the table of a ring of one direction.
abbrev pub SeatOf : Type 0 → Type 0 → Type 0
SeatOf D C = Seated (DriverEvent D) (ControllerEvent C)

-- Both records are empty, and all slots are out, in order.
pub record Deals {D C : Type 0} (st : Step Buffer) (m : Seated D C) (r : ℕ) (m' : Seated D C) : Type 0 where
  pub seat : m' ≡ (Both [] [], empty_slots st.slots 0 st.slots)

-- An end of a ring: its record in a view, and the view of the seat that has a record. In a ring of `n` places: the
-- access of an event, the slots of its seat after a record, and a fact about every record.
pub record End (V E : Type 0) : Type 1 where
  pub part : V → List E
  pub seat : List E → V
  pub names : ℕ → E → Access
  pub slots : ℕ → List E → List (ℕ × Buffer)
  pub Stands : ℕ → List E → Type 0

-- The event of a control value that is stored.
abbrev pub asks : {D : Type 0} → ℕ → DriverEvent D
asks value = if value == 1 then AskedEnable else AskedDisable

abbrev pub answers : {C : Type 0} → ℕ → ControllerEvent C
answers value = if value == 2 then Enabled else Disabled

-- What the loads of the shared steps establish besides their event: one of the four control values, or a place of the
-- ring.
abbrev pub IsControl : {E : Type 0} → Tells E
IsControl n es i r b = r ≤ 3

abbrev pub IsPlace : {E : Type 0} → Tells E
IsPlace n es i r b = r < n

module _ {Ring Posted Completed Reaped D C : Type 0} (form : Form Ring Posted Completed Reaped D C) where
  abbrev pub driver_end : End (View (DriverEvent D) (ControllerEvent C)) (DriverEvent D)
  driver_end = record { part = driver_part; seat = Driver; names = driver_access form; slots = λ n es. driver_slots n (driving form es); Stands = λ n es. IsWindow n (driving form es) }

  abbrev pub controller_end : End (View (DriverEvent D) (ControllerEvent C)) (ControllerEvent C)
  controller_end = record { part = controller_part; seat = Controller; names = controller_access form; slots = λ n es. controller_slots n (controlling form n es); Stands = λ n es. Unit {0} }

  -- Both records are those of one ring.
  pub record Meets (st : Step Buffer) (m : SeatOf D C) (r : ℕ) (m' : SeatOf D C) : Type 0 where
    pub same : m' ≡ m
    pub of_one_ring : form.AreOf st.slots (driver_part m.0) (controller_part m.0)

  -- A place of the ring. The items posted up to it are at least as many as the controller knew of.
  pub record IsTail (n : ℕ) (es : List (ControllerEvent C)) (i r : ℕ) (b : Buffer) : Type 0 where
    pub below : r < n
    pub grows : (controlling form n es).known ≤ count_at n (length (controlling form n es).completed) r

  -- The next descriptor, and the buffer that comes with it.
  abbrev pub IsNext : Tells (ControllerEvent C)
  IsNext n es i r b = form.IsFetched n (controlling form n es) r b

-- The kinds of steps of an end. A step adds one event to the end's record, made from the value found or stored and from
-- the buffer whose slot it takes or gives back.
module _ {V E : Type 0} (whose : End V E) where
  -- The view with one more event in the end's record.
  abbrev pub longer : Me Buffer V → E → V
  longer m e = whose.seat (whose.part m.0 ++ e ∷ [])

  -- The end's record grows by this event, which names the access: its kind, the word of the step, and the value found
  -- or stored there. The seat then has these slots.
  pub record Adds (kind : Kind) (st : Step Buffer) (m : Me Buffer V) (r : ℕ) (e : E) (slots : List (ℕ × Buffer)) (m' : Me Buffer V) : Type 0 where
    pub seat : m' ≡ (longer m e, slots)
    pub names : whose.names st.slots e ≡ record { kind = kind; index = st.word; value = r }

  -- The law of every step of an end: its record grows by exactly one event.
  pub record Counts (kind : Kind) (st : Step Buffer) (m : Me Buffer V) (r : ℕ) (m' : Me Buffer V) : Type 0 where
    pub event : E
    pub slots : List (ℕ × Buffer)
    pub adds : Adds kind st m r event slots m'

  -- A store.
  abbrev pub stores : Event E → Step Buffer → Me Buffer V → ℕ → Me Buffer V → Type 0
  stores event st m r m' = Adds Store st m r (event st.slots (whose.part m.0) st.word r blank) m.1 m'

  -- A store that gives back the buffer in the slot that the seat took last.
  abbrev pub gives : Event E → Step Buffer → Me Buffer V → ℕ → Me Buffer V → Type 0
  gives event st m r m' = Adds Store st m r (event st.slots (whose.part m.0) st.word r (front_buffer m.1)) (rest m.1) m'

  module _ (event : Event E) (tells : Tells E) where
    -- A load, and what it establishes.
    pub record Loads (st : Step Buffer) (m : Me Buffer V) (r : ℕ) (m' : Me Buffer V) : Type 0 where
      pub adds : Adds Load st m r (event st.slots (whose.part m.0) st.word r blank) m.1 m'
      pub told : tells st.slots (whose.part m.0) st.word r blank

    -- A load or a store that takes a buffer out of its slot.
    pub record Takes (kind : Kind) (st : Step Buffer) (m : Me Buffer V) (r : ℕ) (m' : Me Buffer V) : Type 0 where
      pub buf : Buffer
      pub adds : Adds kind st m r (event st.slots (whose.part m.0) st.word r buf) ((st.word, buf) ∷ m.1) m'
      pub told : tells st.slots (whose.part m.0) st.word r buf

    -- A load that takes a buffer out if the word is done.
    pub record Finds (missed : ℕ → ℕ → E) (done : ℕ → Bool) (st : Step Buffer) (m : Me Buffer V) (r : ℕ) (m' : Me Buffer V) : Type 0 where
      pub undone : done r ≡ false → Adds Load st m r (missed st.word r) m.1 m'
      pub taken : done r ≡ true → Takes Load st m r m'
