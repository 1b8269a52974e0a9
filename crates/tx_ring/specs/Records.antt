-- The contents of the records of a transmit ring's two ends.
use Rattle.std.specs.Prelude.{ℕ, ◌+◌, ◌-◌, false, List, [], ◌∷◌, ◌++◌, length, Option, Some, None}
use Rattle.buffer_pool.specs.Buffer.{Buffer}
use Rattle.descriptor.specs.Transmit.{eop_of, rs_of, paylen_of}
use Rattle.ring_model.specs.declared.states.DriverState.TheVariants.{New}
use Rattle.ring_model.specs.shared.Frames.{Bytes}
use Rattle.ring_model.specs.transmit.Ring as ring
use Rattle.ring_model.specs.transmit.Steps.{first_report}
use Rattle.ring_model.specs.transmit.Ring.{new_posting}
use Rattle.shared_ring.specs.declared.events.DriverEvent.{DriverEvent}
use Rattle.shared_ring.specs.declared.events.ControllerEvent.{ControllerEvent}
use Rattle.shared_ring.specs.declared.events.ControllerEvent.TheVariants as controller
use Rattle.shared_ring.specs.Accesses.{Access, load, store}
use Rattle.shared_ring.specs.Forms.{Reading}
use Rattle.shared_ring.specs.Records as shared
use Rattle.shared_ring.specs.Records.{Driven, Controlled, undriven, uncontrolled}
use Rattle.shared_ring.specs.Registers.{head_index, tail_index, report_index}
use Rattle.tx_ring.specs.declared.events.TxDriverOwn.{TxDriverOwn}
use Rattle.tx_ring.specs.declared.events.TxDriverOwn.TheVariants.{NoReport, SawReport, Cleaned, EndedEpoch, ClearedReport}
use Rattle.tx_ring.specs.declared.events.TxControllerOwn.{TxControllerOwn}
use Rattle.tx_ring.specs.declared.events.TxControllerOwn.TheVariants.{Sent, Reported}

abbrev pub DriverStep : Type 0
DriverStep = DriverEvent TxDriverOwn

abbrev pub ControllerStep : Type 0
ControllerStep = ControllerEvent TxControllerOwn

abbrev pub Posting : Type 0
Posting = ring.Posting Bytes

abbrev pub TxDriven : Type 0
TxDriven = Driven Posting ℕ

abbrev pub TxControlled : Type 0
TxControlled = Controlled Posting

-- What a driver posts with a word and a buffer.
abbrev pub posting_of : ℕ → Buffer → Posting
posting_of word b = new_posting b.number b.bytes (eop_of word) (rs_of word) (paylen_of word)

-- Clearing the last word ends the epoch. A new, empty one begins.
abbrev pub drive_own : TxDriven → TxDriverOwn → TxDriven
drive_own d (NoReport place word) = d
drive_own d (SawReport place word) = d
drive_own d (Cleaned place b) = record d { reaped = d.reaped ++ b.number ∷ [] }
drive_own d EndedEpoch = record d { posted = []; published = 0; reaped = []; reclaimed = 0; state = New }
drive_own d ClearedReport = record d { posted = []; reaped = []; reclaimed = 0; state = New }

abbrev pub drive : TxDriven → DriverStep → TxDriven
drive = shared.drive posting_of drive_own

abbrev pub driving : List DriverStep → TxDriven
driving es = shared.driving_from posting_of drive_own undriven es

-- While a report is owed, nothing more is fetched.
abbrev pub control_own : TxControlled → TxControllerOwn → TxControlled
control_own c (Sent head word b) = record c { completed = c.completed ++ posting_of word b ∷ []; held = None; head = head; barred = rs_of word }
control_own c (Reported place word) = record c { barred = false }

-- The access that a step makes in a ring of `n` places.
abbrev pub driver_names : ℕ → TxDriverOwn → Access
driver_names n (NoReport place word) = load place word
driver_names n (SawReport place word) = load place word
driver_names n (Cleaned place b) = store place 0
driver_names n EndedEpoch = store (tail_index n) 0
driver_names n ClearedReport = store (report_index n) 0

abbrev pub controller_names : ℕ → TxControllerOwn → Access
controller_names n (Sent head word b) = store (head_index n) head
controller_names n (Reported place word) = store place word

abbrev pub control : ℕ → TxControlled → ControllerStep → TxControlled
control n = shared.control n control_own

abbrev pub controlling : ℕ → List ControllerStep → TxControlled
controlling n es = shared.controlling_from n control_own uncontrolled es

-- The descriptor's word that the controller last fetched.
abbrev pub fetch_word : ℕ → ControllerStep → ℕ
fetch_word w (controller.Looked tail) = w
fetch_word w (controller.Fetched place word b) = word
fetch_word w (controller.StoredHead place) = w
fetch_word w (controller.LoadedRequest word) = w
fetch_word w controller.Enabled = w
fetch_word w controller.Disabled = w
fetch_word w (controller.Own o) = w

abbrev pub fetched_from : ℕ → List ControllerStep → ℕ
fetched_from w [] = w
fetched_from w (e ∷ es) = fetched_from (fetch_word w e) es

abbrev pub fetched_word : List ControllerStep → ℕ
fetched_word es = fetched_from 0 es

-- What the driver has learned of the controller in this epoch: the head that it loaded, and how many items it has seen
-- reported.
pub record Knowing : Type 0 where
  pub head : Option ℕ
  pub seen : ℕ

abbrev pub unknown : Knowing
unknown = record { head = None; seen = 0 }

-- The oldest report that was asked for and not seen.
abbrev pub outstanding : TxDriven → ℕ → Option ℕ
outstanding d seen = first_report d.posted seen (length d.posted - seen)

-- A report covers all items up to its own.
abbrev pub seen_after : Knowing → Option ℕ → Knowing
seen_after k None = k
seen_after k (Some j) = record k { seen = j + 1 }

abbrev pub know_own : TxDriven → Knowing → TxDriverOwn → Knowing
know_own d k (NoReport place word) = k
know_own d k (SawReport place word) = seen_after k (outstanding d k.seen)
know_own d k (Cleaned place b) = k
know_own d k EndedEpoch = unknown
know_own d k ClearedReport = unknown

abbrev pub saw_head : Knowing → ℕ → Knowing
saw_head k word = record k { head = Some word }

abbrev pub know : TxDriven → Knowing → DriverStep → Knowing
know = shared.know posting_of drive_own saw_head know_own

abbrev pub knowing : List DriverStep → Knowing
knowing es = shared.knowing_from posting_of drive_own saw_head know_own undriven unknown es

abbrev pub reading : Reading Posting Posting ℕ TxDriverOwn TxControllerOwn
reading = record {
  posting = posting_of;
  drive_own = drive_own;
  control_own = control_own;
  driver_names = driver_names;
  controller_names = controller_names;
  Known = Knowing;
  unknown = unknown;
  saw_head = saw_head;
  know_own = know_own;
}
