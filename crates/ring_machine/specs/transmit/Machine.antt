-- A transmit queue's machine: its parts, and what the ring that it agrees with guarantees of its steps.
use Rattle.std.specs.Prelude.{◌≡◌, ℕ, ◌%◌, ◌^◌, ◌<◌, ◌≤◌, Bool, true, List, Option, Some, Result, slice_get}
use Rattle.ring_model.specs.declared.states.Completion.{Completion}
use Rattle.ring_model.specs.declared.states.Owner.{Owner}
use Rattle.ring_model.specs.declared.steps.TxStep.{TxStep}
use Rattle.ring_model.specs.declared.notes.Note.{Note}
use Rattle.ring_model.specs.shared.Queue.{returned_count}
use Rattle.ring_model.specs.shared.Agreement.{Agrees, Wrapped}
use Rattle.ring_model.specs.transmit.Ring.{Posting, TxRing, are_whole, ends_posting}
use Rattle.ring_model.specs.transmit.Steps.{by_head, tx_can, tx_changed, tx_note_of, IsTxReachable}
use Rattle.ring_model.specs.transmit.Agreement.{is_told, tx_buffer_of_item, tx_word_of_item}
use Rattle.refusals.specs.declared.errors.MachineError.{MachineError}
use Rattle.ring_machine.specs.declared.machine.transmit.TxMachine.TheInside.{Inside}
use Rattle.ring_machine.specs.shared.Following.{Follows, Runs}

-- The parts of both directions, and those of reports.
pub record TxParts : Type 0 where
  pub queue : Wrapped ℕ
  pub completion : Completion
  pub report : ℕ  -- the head word of reports
  pub rep : ℕ  -- the place after the highest report that the driver has seen
  pub ends : Bool  -- whether the last posted segment ends a frame
  pub owed : Bool  -- a report, for the place before the next to fetch

abbrev pub tx_parts_of : Inside → TxParts
tx_parts_of m = record { queue = m.queue; completion = m.completion; report = m.report; rep = m.rep; ends = m.ends; owed = m.owed }

-- A payload is its number of bytes, and a buffer its number. `told` says whether an item's report is in its descriptor.
abbrev pub word_tx : (ℕ → Bool) → ℕ → Option (Posting ℕ) → Option (Posting ℕ) → ℕ
word_tx = tx_word_of_item {Payload = ℕ} {Buffer = ℕ} (λ len. len) (λ b. b.number)

abbrev pub buffer_tx : Option (Posting ℕ) → Option (Posting ℕ) → Option ℕ
buffer_tx = tx_buffer_of_item {Payload = ℕ} {Buffer = ℕ} (λ len. len) (λ b. b.number)

pub record TxAgrees (p : TxParts) (r : TxRing ℕ) : Type 0 where
  pub queue : Agrees {Reaped = ℕ} ends_posting (word_tx (is_told r)) buffer_tx p.queue r.queue
  pub completion : p.completion ≡ r.completion
  pub report : by_head r.completion ≡ true → p.report ≡ r.reported % r.size
  pub rep : p.rep ≡ r.seen_reported % r.size
  pub ends : p.ends ≡ are_whole r.ledger.posted
  pub owed : p.owed ≡ r.owed
  -- The length of each item that is out fits the descriptor's bits.
  pub lengths : (k : ℕ) (q : Posting ℕ) → returned_count r.queue ≤ k → slice_get r.ledger.posted k ≡ Some q → q.payload < 2 ^ 16

unfoldable pub TxFollows : TxParts → TxStep (Posting ℕ) → Result Note MachineError → TxParts → Type 0
TxFollows = Follows TxAgrees (IsTxReachable ℕ) tx_can tx_changed tx_note_of

unfoldable pub TxRuns : TxParts → List (TxStep (Posting ℕ)) → ℕ → TxParts → Type 0
TxRuns = Runs TxAgrees (IsTxReachable ℕ) tx_can tx_changed tx_note_of

-- The machine returns the owner in the ring's map.
unfoldable pub TxOwns : TxParts → ℕ → Owner → Type 0
TxOwns p place owner = (n : ℕ) (r : TxRing ℕ) → IsTxReachable ℕ n r → TxAgrees p r → slice_get r.owners place ≡ Some owner
