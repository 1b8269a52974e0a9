-- The parts of a direction: how its steps change both records, what each shared step requires and establishes, and how
-- words, slots and records agree with its ring.
use Rattle.std.specs.Prelude.{ℕ, List}
use mathlib.Core.Option as maybe
use Rattle.buffer_pool.specs.Buffer.{Buffer}
use Rattle.ring_model.specs.declared.states.Completion.{Completion}
use Rattle.ring_model.specs.shared.Frames.{Piece}
use Rattle.shared_ring.specs.declared.events.DriverEvent.{DriverEvent}
use Rattle.shared_ring.specs.declared.events.ControllerEvent.{ControllerEvent}
use Rattle.shared_ring.specs.Accesses as accesses
use Rattle.shared_ring.specs.Accesses.{Access}
use Rattle.shared_ring.specs.Records as records
use Rattle.shared_ring.specs.Records.{Driven, Controlled, undriven, uncontrolled}

-- How to read the records of the two ends.
pub record Reading (Posted Completed Reaped D C : Type 0) : Type 1 where
  -- What a driver posts with a word and a buffer, and how the direction's own steps change the records.
  pub posting : ℕ → Buffer → Posted
  pub drive_own : Driven Posted Reaped → D → Driven Posted Reaped
  pub control_own : Controlled Completed → C → Controlled Completed
  -- The access, in a table of `n` places, of a direction's own step.
  pub driver_names : ℕ → D → Access
  pub controller_names : ℕ → C → Access
  -- What a driver learns of its controller, from the head that it loads and from the direction's own steps.
  pub Known : Type 0
  pub unknown : Known
  pub saw_head : Known → ℕ → Known
  pub know_own : Driven Posted Reaped → Known → D → Known

pub record Form (Ring Posted Completed Reaped D C : Type 0) : Type 1 where
  pub reading : Reading Posted Completed Reaped D C
  pub open reading use *
  -- The piece of a frame that a completed item carries.
  pub carries : Completed → Piece
  -- The ways in which its rings may report.
  pub Reports : Completion → Type 0
  -- In a ring of `n` places: whether a buffer may be posted with this word after the posted items, whether these may be
  -- published, and whether the tail may be cleared before the epoch's last step.
  pub MayPost : ℕ → List Posted → ℕ → Buffer → Type 0
  pub MayPublish : List Posted → Type 0
  pub MayClearTail : Completion → Type 0
  -- Whether a disabling may be answered once the head is stored and nothing is held.
  pub MayDisable : Controlled Completed → Type 0
  -- What is known of a fetched word and its buffer, and of the buffer of a posted item.
  pub IsFetched : ℕ → Controlled Completed → ℕ → Buffer → Type 0
  pub IsOf : Posted → Buffer → Type 0
  -- Words, slots and both records agree with a ring; the consequence for both records; and the consequence for the
  -- slots of a closed table.
  pub IsLaidOut : ℕ → Completion → Ring → List (DriverEvent D) → List (ControllerEvent C) → List ℕ → List (maybe.Option Buffer) → Type 0
  pub AreOf : ℕ → List (DriverEvent D) → List (ControllerEvent C) → Type 0
  pub LeftIn : ℕ → List (DriverEvent D) → List (ControllerEvent C) → List Buffer → Type 0

module _ {Ring Posted Completed Reaped D C : Type 0} (form : Form Ring Posted Completed Reaped D C) where
  -- The contents of the records, and the effect of one more event.
  abbrev pub drive : Driven Posted Reaped → DriverEvent D → Driven Posted Reaped
  drive d e = records.drive form.posting form.drive_own d e

  abbrev pub driving : List (DriverEvent D) → Driven Posted Reaped
  driving es = records.driving_from form.posting form.drive_own undriven es

  abbrev pub know : Driven Posted Reaped → form.Known → DriverEvent D → form.Known
  know d k e = records.know form.posting form.drive_own form.saw_head form.know_own d k e

  abbrev pub knowing : List (DriverEvent D) → form.Known
  knowing es = records.knowing_from form.posting form.drive_own form.saw_head form.know_own undriven form.unknown es

  abbrev pub control : ℕ → Controlled Completed → ControllerEvent C → Controlled Completed
  control n c e = records.control n form.control_own c e

  abbrev pub controlling : ℕ → List (ControllerEvent C) → Controlled Completed
  controlling n es = records.controlling_from n form.control_own uncontrolled es

  -- The access of an event.
  abbrev pub driver_access : ℕ → DriverEvent D → Access
  driver_access n e = accesses.driver_access form.driver_names n e

  abbrev pub controller_access : ℕ → ControllerEvent C → Access
  controller_access n e = accesses.controller_access form.controller_names n e
