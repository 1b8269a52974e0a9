-- Machines side by side: what the world that they agree with guarantees of their moves.
use Rattle.std.specs.Prelude.{◌≡◌, ℕ, ◌≤◌, List, length, map, Some, Result, slice_get}
use Rattle.limits.specs.declared.profile.TheConstants.{MOST_PAIRS}
use Rattle.limits.specs.RingLength.{IsRingLength}
use Rattle.ring_model.specs.declared.notes.Note.{Note}
use Rattle.ring_model.specs.shared.Schedules.{next}
use Rattle.ring_model.specs.Worlds.{QueueMove, World, after_move, after_moves, can_move, moves_happened, note_in, IsReachableWorld}
use Rattle.ring_model.specs.Worlds as world
use Rattle.refusals.specs.declared.errors.MachineError.{MachineError}
use Rattle.ring_machine.specs.declared.moves.Move.{Move}
use Rattle.ring_machine.specs.declared.moves.Move.TheVariants.{Receive, Transmit}
use Rattle.ring_machine.specs.declared.queues.Queues.TheInside.{Inside}
use Rattle.ring_machine.specs.shared.Following.{Did}
use Rattle.ring_machine.specs.receive.Machine.{RxAgrees, RxParts}
use Rattle.ring_machine.specs.transmit.Machine.{TxAgrees, TxParts}

-- The machines of the receive queues and of the transmit queues, by number.
pub record QueueParts : Type 0 where
  pub receive : List RxParts
  pub transmit : List TxParts

abbrev pub queue_parts_of : Inside → QueueParts
queue_parts_of q = record { receive = q.receive.items; transmit = q.transmit.items }

-- A number of pairs that a port may have, and a lawful ring length.
abbrev pub AreQueues : ℕ → ℕ → Type 0
AreQueues pairs n = (1 ≤ pairs) × (pairs ≤ MOST_PAIRS) × IsRingLength n

-- The same move in the world.
abbrev pub queue_move : Move → QueueMove
queue_move (Receive q s) = world.Receive q s
queue_move (Transmit q s) = world.Transmit q s

-- Both lists are equally long, and entries with the same number agree.
pub record AllAgree {A B : Type 0} (Agree : A → B → Type 0) (xs : List A) (ys : List B) : Type 0 where
  pub lengths : length xs ≡ length ys
  pub each : (q : ℕ) (x : A) (y : B) → slice_get xs q ≡ Some x → slice_get ys q ≡ Some y → Agree x y

pub record QueuesAgree (p : QueueParts) (w : World) : Type 0 where
  pub receive : AllAgree RxAgrees p.receive w.receive
  pub transmit : AllAgree TxAgrees p.transmit w.transmit

-- The result is the world's note, or refusal 11 if it has none. The queues agree with the world after the move. A
-- refusal leaves them unchanged.
unfoldable pub QueuesFollow : QueueParts → Move → Result Note MachineError → QueueParts → Type 0
QueuesFollow old m result new = (pairs n : ℕ) (w : World) → IsReachableWorld pairs n w → QueuesAgree old w → Did QueuesAgree (note_in w (queue_move m)) (next can_move after_move w (queue_move m)) result old new

-- Queues that agreed with a reachable world agree with the world after the schedule. `count` is the number of moves
-- that happened.
unfoldable pub QueuesRun : QueueParts → List Move → ℕ → QueueParts → Type 0
QueuesRun old schedule count new = (pairs n : ℕ) (w : World) → IsReachableWorld pairs n w → QueuesAgree old w
    → QueuesAgree new (after_moves w (map queue_move schedule)) × (count ≡ moves_happened w (map queue_move schedule))
