-- The contents of the two ends' records.
use Rattle.std.specs.Prelude.{ℕ, ◌+◌, ◌-◌, ◌%◌, ◌<◌, ◌≤◌, Bool, true, false, List, [], ◌∷◌, ◌++◌, length, Option, Some, None}
use Rattle.buffer_pool.specs.Buffer.{Buffer}
use Rattle.ring_model.specs.declared.states.DriverState.{DriverState}
use Rattle.ring_model.specs.declared.states.DriverState.TheVariants.{New, Asked, Stopping, Cleared, Tailed}
use Rattle.ring_model.specs.declared.states.ControllerState.{ControllerState}
use Rattle.ring_model.specs.declared.states.ControllerState.TheVariants.{Off, Serving, Ended}
use Rattle.ring_model.specs.shared.Frames.{Piece, ends_frame}
use Rattle.ring_model.specs.shared.Handshakes.{learned}
use Rattle.shared_ring.specs.declared.events.DriverEvent.{DriverEvent}
use Rattle.shared_ring.specs.declared.events.DriverEvent.TheVariants as driver
use Rattle.shared_ring.specs.declared.events.ControllerEvent.{ControllerEvent}
use Rattle.shared_ring.specs.declared.events.ControllerEvent.TheVariants as controller
use Rattle.shared_ring.specs.Slots.{empty_slots, slots_while}

-- The driver's record of this epoch: what it posted, how much of that it published, what it reaped, how many buffers it
-- reclaimed, and its state.
pub record Driven (Posted Reaped : Type 0) : Type 0 where
  pub posted : List Posted
  pub published : ℕ
  pub reaped : List Reaped
  pub reclaimed : ℕ
  pub state : DriverState

-- The controller's record since it was enabled: what it completed, how many posted items it knows of, the buffer that it
-- holds, the head that it stored, its state, the control value that it last loaded or answered, and whether it may
-- fetch no more for now.
pub record Controlled (Completed : Type 0) : Type 0 where
  pub completed : List Completed
  pub known : ℕ
  pub held : Option Buffer
  pub head : ℕ
  pub state : ControllerState
  pub seen : ℕ
  pub barred : Bool

-- `posting` is what a driver posts with a word and a buffer, and `own` is the effect of a direction's own step.
module _ {Posted Reaped Own : Type 0} (posting : ℕ → Buffer → Posted) (own : Driven Posted Reaped → Own → Driven Posted Reaped) where
  abbrev pub drive : Driven Posted Reaped → DriverEvent Own → Driven Posted Reaped
  drive d (driver.Posted place word b) = record d { posted = d.posted ++ posting word b ∷ [] }
  drive d (driver.Published tail) = record d { published = length d.posted }
  drive d driver.AskedEnable = record d { state = Asked }
  drive d (driver.LoadedControl word) = record d { state = learned d.state word }
  drive d driver.AskedDisable = record d { state = Stopping }
  drive d (driver.LoadedHead word) = d
  drive d (driver.Reclaimed place b) = record d { reclaimed = d.reclaimed + 1 }
  drive d driver.ClearedHead = record d { state = Cleared }
  drive d driver.ClearedTail = record d { published = 0; state = Tailed }
  drive d (driver.Own o) = own d o

  abbrev pub driving_from : Driven Posted Reaped → List (DriverEvent Own) → Driven Posted Reaped
  driving_from d [] = d
  driving_from d (e ∷ es) = driving_from (drive d e) es

-- What the driver has learned, from loaded heads and from the direction's own steps.
module _ {Posted Reaped Own Known : Type 0} (posting : ℕ → Buffer → Posted) (own : Driven Posted Reaped → Own → Driven Posted Reaped) (saw_head : Known → ℕ → Known) (know_own : Driven Posted Reaped → Known → Own → Known) where
  abbrev pub know : Driven Posted Reaped → Known → DriverEvent Own → Known
  know d k (driver.LoadedHead word) = saw_head k word
  know d k (driver.Own o) = know_own d k o
  know d k _ = k

  abbrev pub knowing_from : Driven Posted Reaped → Known → List (DriverEvent Own) → Known
  knowing_from d k [] = k
  knowing_from d k (e ∷ es) = knowing_from (drive posting own d e) (know d k e) es

abbrev pub undriven : {Posted Reaped : Type 0} → Driven Posted Reaped
undriven = record { posted = []; published = 0; reaped = []; reclaimed = 0; state = New }

-- The number of items up to a loaded tail, in a ring of `n` places with `completed` items completed.
abbrev pub count_at : ℕ → ℕ → ℕ → ℕ
count_at n completed tail = completed + (tail + n - completed % n) % n

-- An answered enabling starts an empty record.
module _ {Completed Own : Type 0} (n : ℕ) (own : Controlled Completed → Own → Controlled Completed) where
  abbrev pub control : Controlled Completed → ControllerEvent Own → Controlled Completed
  control c (controller.Looked tail) = record c { known = count_at n (length c.completed) tail }
  control c (controller.Fetched place word b) = record c { held = Some b }
  control c (controller.StoredHead place) = record c { head = place }
  control c (controller.LoadedRequest word) = record c { seen = word }
  control c controller.Enabled = record c { completed = []; known = 0; head = 0; state = Serving; seen = 2; barred = false }
  control c controller.Disabled = record c { state = Ended; seen = 0 }
  control c (controller.Own o) = own c o

  abbrev pub controlling_from : Controlled Completed → List (ControllerEvent Own) → Controlled Completed
  controlling_from c [] = c
  controlling_from c (e ∷ es) = controlling_from (control c e) es

abbrev pub uncontrolled : {Completed : Type 0} → Controlled Completed
uncontrolled = record { completed = []; known = 0; held = None; head = 0; state = Off; seen = 0; barred = false }

-- Whether the last completed item ends a frame; true if there is none.
abbrev pub ends_whole : {Completed : Type 0} → (Completed → Piece) → List Completed → Bool
ends_whole carries xs = ends_frame (λ s. (carries s).eop) true xs

-- The driver's slots, in the order in which it posts into them: those of the items that are not out.
abbrev pub driver_slots : {Posted Reaped : Type 0} → ℕ → Driven Posted Reaped → List (ℕ × Buffer)
driver_slots n d = empty_slots n (length d.posted) (length d.reaped + d.reclaimed + n - length d.posted)

-- The controller's slot: that of the fetched buffer.
abbrev pub controller_slots : {Completed : Type 0} → ℕ → Controlled Completed → List (ℕ × Buffer)
controller_slots n c = slots_while (length c.completed % n) c.held

-- Fewer than n buffers are out.
pub record IsWindow {Posted Reaped : Type 0} (n : ℕ) (d : Driven Posted Reaped) : Type 0 where
  pub back : length d.reaped + d.reclaimed ≤ length d.posted
  pub room : length d.posted < length d.reaped + d.reclaimed + n
