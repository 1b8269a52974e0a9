-- The contents of the records of a receive ring's two ends.
use Rattle.std.specs.Prelude.{ℕ, ◌+◌, ◌/◌, ◌%◌, Bool, true, false, ◌||◌, ◌&&◌, List, [], ◌∷◌, ◌++◌, length, Option, Some, None, ◌==◌}
use Rattle.buffer_pool.specs.Buffer.{Buffer}
use Rattle.ring_model.specs.declared.states.DriverState.TheVariants.{New}
use Rattle.ring_model.specs.shared.Frames.{Bytes}
use Rattle.ring_model.specs.shared.Segments.{Segment}
use Rattle.shared_ring.specs.declared.events.DriverEvent.{DriverEvent}
use Rattle.shared_ring.specs.declared.events.ControllerEvent.{ControllerEvent}
use Rattle.shared_ring.specs.Accesses.{Access, load, store}
use Rattle.shared_ring.specs.Forms.{Reading}
use Rattle.shared_ring.specs.Records as shared
use Rattle.shared_ring.specs.Registers.{quiet_index}
use Rattle.shared_ring.specs.Records.{Driven, Controlled, undriven, uncontrolled}
use Rattle.rx_ring.specs.declared.events.RxDriverOwn.{RxDriverOwn}
use Rattle.rx_ring.specs.declared.events.RxDriverOwn.TheVariants.{NotDone, Taken, LoadedQuiet, ClearedQuiet}
use Rattle.rx_ring.specs.declared.events.RxControllerOwn.{RxControllerOwn}
use Rattle.rx_ring.specs.declared.events.RxControllerOwn.TheVariants.{WroteBack, SaidQuiet}

abbrev pub DriverStep : Type 0
DriverStep = DriverEvent RxDriverOwn

abbrev pub ControllerStep : Type 0
ControllerStep = ControllerEvent RxControllerOwn

abbrev pub RxDriven : Type 0
RxDriven = Driven ℕ (Segment Bytes)

abbrev pub RxControlled : Type 0
RxControlled = Controlled (Segment Bytes)

-- EOP of a write-back.
abbrev pub eop_of : ℕ → Bool
eop_of word = (word / 2) % 2 == 1

abbrev pub segment_of : ℕ → Buffer → Segment Bytes
segment_of word b = record { number = b.number; payload = b.bytes; eop = eop_of word }

-- A receive driver posts the numbers of buffers.
abbrev pub posting : ℕ → Buffer → ℕ
posting word b = b.number

-- Clearing the quiet word ends the epoch. A new, empty one begins.
abbrev pub drive_own : RxDriven → RxDriverOwn → RxDriven
drive_own d (NotDone place word) = d
drive_own d (Taken place word b) = record d { reaped = d.reaped ++ segment_of word b ∷ [] }
drive_own d (LoadedQuiet word) = d
drive_own d ClearedQuiet = record d { posted = []; reaped = []; reclaimed = 0; state = New }

abbrev pub drive : RxDriven → DriverStep → RxDriven
drive = shared.drive posting drive_own

abbrev pub driving : List DriverStep → RxDriven
driving es = shared.driving_from posting drive_own undriven es

abbrev pub control_own : RxControlled → RxControllerOwn → RxControlled
control_own c (WroteBack place word b) = record c { completed = c.completed ++ segment_of word b ∷ []; held = None }
control_own c SaidQuiet = record c { barred = true }

-- The access that a step makes in a ring of `n` places.
abbrev pub driver_names : ℕ → RxDriverOwn → Access
driver_names n (NotDone place word) = load place word
driver_names n (Taken place word b) = load place word
driver_names n (LoadedQuiet word) = load (quiet_index n) word
driver_names n ClearedQuiet = store (quiet_index n) 0

abbrev pub controller_names : ℕ → RxControllerOwn → Access
controller_names n (WroteBack place word b) = store place word
controller_names n SaidQuiet = store (quiet_index n) 1

abbrev pub control : ℕ → RxControlled → ControllerStep → RxControlled
control n = shared.control n control_own

abbrev pub controlling : ℕ → List ControllerStep → RxControlled
controlling n es = shared.controlling_from n control_own uncontrolled es

-- What the driver has learned of the controller in this epoch: the head that it loaded, that the quiet word was 1, and
-- that no stored segment is left to take.
pub record Knowing : Type 0 where
  pub head : Option ℕ
  pub quiet : Bool
  pub drained : Bool

abbrev pub unknown : Knowing
unknown = record { head = None; quiet = false; drained = false }

-- The numbers of taken and posted items decide whether anything is out.
abbrev pub know_own : RxDriven → Knowing → RxDriverOwn → Knowing
know_own d k (NotDone place word) = record k { drained = k.drained || k.quiet }
know_own d k (Taken place word b) = record k { drained = k.drained || (k.quiet && (length d.reaped + 1 == length d.posted)) }
know_own d k (LoadedQuiet word) = record k { quiet = k.quiet || (word == 1); drained = k.drained || ((k.quiet || (word == 1)) && (length d.reaped == length d.posted)) }
know_own d k ClearedQuiet = unknown

abbrev pub saw_head : Knowing → ℕ → Knowing
saw_head k word = record k { head = Some word }

abbrev pub know : RxDriven → Knowing → DriverStep → Knowing
know = shared.know posting drive_own saw_head know_own

abbrev pub knowing : List DriverStep → Knowing
knowing es = shared.knowing_from posting drive_own saw_head know_own undriven unknown es

abbrev pub reading : Reading ℕ (Segment Bytes) (Segment Bytes) RxDriverOwn RxControllerOwn
reading = record {
  posting = posting;
  drive_own = drive_own;
  control_own = control_own;
  driver_names = driver_names;
  controller_names = controller_names;
  Known = Knowing;
  unknown = unknown;
  saw_head = saw_head;
  know_own = know_own;
}
