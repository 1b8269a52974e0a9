-- The values of a queue's registers: in a machine, and in the world that the machines agree with.
use Rattle.std.specs.Prelude.{◌≡◌, ℕ, ◌%◌, Bool, ◌||◌, ◌==◌, Option, option_map, slice_get}
use Rattle.ring_model.specs.shared.Agreement.{Wrapped}
use Rattle.ring_model.specs.shared.Queue.{Queue}
use Rattle.ring_model.specs.Worlds.{QueueMove, World}
use Rattle.ring_model.specs.Worlds as world
use Rattle.ring_machine.specs.declared.moves.Move.{Move}
use Rattle.ring_machine.specs.declared.registers.Registers.{Registers}
use Rattle.ring_machine.specs.declared.registers.QueueKind.{QueueKind}
use Rattle.ring_machine.specs.declared.registers.QueueKind.TheVariants.{Receive, Transmit}
use Rattle.ring_machine.specs.Queues.{QueueParts, QueuesAgree, queue_move}

-- ENABLE, by the control word: it reads as 1 for 2 (enabled) and 3 (disabling asked).
abbrev pub reads_enabled : ℕ → Bool
reads_enabled control = (control == 2) || (control == 3)

-- The head and tail words, and ENABLE.
abbrev pub registers_held : QueueKind → Wrapped ℕ → Registers
registers_held kind w = record { kind = kind; head = w.head; tail = w.tail; enable = reads_enabled w.handshake.control }

-- The stored head, the number of published items modulo n, and ENABLE.
abbrev pub registers_of : {Posted Completed Reaped : Type 0} → QueueKind → Queue Posted Completed Reaped → Registers
registers_of kind q = record { kind = kind; head = q.head; tail = q.published % q.size; enable = reads_enabled q.handshake.control }

-- The registers of the queue that a move names, if the queue exists.
abbrev pub registers_in : World → QueueMove → Option Registers
registers_in w (world.Receive q s) = option_map (λ r. registers_of Receive r.queue) (slice_get w.receive q)
registers_in w (world.Transmit q s) = option_map (λ r. registers_of Transmit r.queue) (slice_get w.transmit q)

-- In every world that the queues agree with, the values read are the registers of the move's queue.
unfoldable pub QueuesRead : QueueParts → Move → Option Registers → Type 0
QueuesRead p m read = (w : World) → QueuesAgree p w → read ≡ registers_in w (queue_move m)
