-- A receive queue's machine: its parts, and what the ring that it agrees with guarantees of its steps.
use Rattle.std.specs.Prelude.{◌≡◌, ℕ, Bool, List, Option, Some, Result, slice_get}
use Rattle.ring_model.specs.declared.states.Owner.{Owner}
use Rattle.ring_model.specs.declared.steps.RxStep.{RxStep}
use Rattle.ring_model.specs.declared.notes.Note.{Note}
use Rattle.ring_model.specs.shared.Agreement.{Agrees, Wrapped}
use Rattle.ring_model.specs.receive.Ring.{RxRing}
use Rattle.ring_model.specs.shared.Segments.{Segment, ends_segment}
use Rattle.ring_model.specs.receive.Steps.{rx_can, rx_changed, rx_note_of, IsRxReachable}
use Rattle.ring_model.specs.receive.Agreement.{rx_buffer_of_item, rx_word_of_item}
use Rattle.refusals.specs.declared.errors.MachineError.{MachineError}
use Rattle.ring_machine.specs.declared.machine.receive.RxMachine.TheInside.{Inside}
use Rattle.ring_machine.specs.shared.Following.{Follows, Runs}

-- The parts of both directions, the quiet word, and whether the controller said that it stores no more.
pub record RxParts : Type 0 where
  pub queue : Wrapped ℕ
  pub quiet : ℕ
  pub still : Bool

abbrev pub rx_parts_of : Inside → RxParts
rx_parts_of m = record { queue = m.queue; quiet = m.quiet; still = m.still }

-- A payload is its number of bytes, and a buffer its number.
abbrev pub word_rx : ℕ → Option ℕ → Option (Segment ℕ) → ℕ
word_rx = rx_word_of_item {Payload = ℕ} {Buffer = ℕ} (λ len. len) (λ b. b) (λ b len. b)

abbrev pub buffer_rx : Option ℕ → Option (Segment ℕ) → Option ℕ
buffer_rx = rx_buffer_of_item {Payload = ℕ} {Buffer = ℕ} (λ len. len) (λ b. b) (λ b len. b)

pub record RxAgrees (p : RxParts) (r : RxRing ℕ) : Type 0 where
  pub queue : Agrees {Reaped = Segment ℕ} ends_segment word_rx buffer_rx p.queue r.queue
  pub quiet : p.quiet ≡ r.quiet
  pub still : p.still ≡ r.still

unfoldable pub RxFollows : RxParts → RxStep ℕ → Result Note MachineError → RxParts → Type 0
RxFollows = Follows RxAgrees (IsRxReachable ℕ) rx_can rx_changed rx_note_of

unfoldable pub RxRuns : RxParts → List (RxStep ℕ) → ℕ → RxParts → Type 0
RxRuns = Runs RxAgrees (IsRxReachable ℕ) rx_can rx_changed rx_note_of

-- The machine returns the owner in the ring's map.
unfoldable pub RxOwns : RxParts → ℕ → Owner → Type 0
RxOwns p place owner = (n : ℕ) (r : RxRing ℕ) → IsRxReachable ℕ n r → RxAgrees p r → slice_get r.owners place ≡ Some owner
