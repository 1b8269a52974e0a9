-- A queue as JSON objects: the place that a move is about, with its descriptor's fields by name, the shared words, and
-- what driver and controller know. Sizes, places and counts are plain numbers.
use Rattle.std.specs.Prelude.{ℕ, zero, suc, ◌/◌, ◌%◌, Bool, not, List, [], ◌∷◌, ◌++◌, Option, Some, None, codes, decimal, option_map, slice_get, slice_index, if◌then◌else◌}
use Rattle.ring_model.specs.declared.states.Owner.{Owner}
use Rattle.ring_model.specs.declared.states.Owner.TheVariants as owner
use Rattle.ring_model.specs.declared.steps.RxStep.{RxStep}
use Rattle.ring_model.specs.declared.steps.RxStep.TheVariants as rx
use Rattle.ring_model.specs.declared.steps.TxStep.{TxStep}
use Rattle.ring_model.specs.declared.steps.TxStep.TheVariants as tx
use Rattle.ring_model.specs.shared.Agreement.{Wrapped, bit}
use Rattle.ring_model.specs.shared.Lists.{slot_at}
use Rattle.ring_model.specs.transmit.Ring.{Posting}
use Rattle.ring_model.specs.transmit.Steps.{by_head}
use Rattle.ring_machine.specs.code.Obstacles.{obstacle_text, queue_obstacle}
use Rattle.ring_machine.specs.declared.moves.Move.{Move}
use Rattle.ring_machine.specs.declared.moves.Move.TheVariants as move
use Rattle.ring_machine.specs.declared.obstacle.Obstacle.{Obstacle}
use Rattle.ring_machine.specs.declared.registers.QueueKind.{QueueKind}
use Rattle.ring_machine.specs.declared.registers.QueueKind.TheVariants.{Receive, Transmit}
use Rattle.ring_machine.specs.receive.Machine.{RxParts}
use Rattle.ring_machine.specs.shared.Machine.{told_owner}
use Rattle.ring_machine.specs.text.Moves.{text_of}
use Rattle.ring_machine.specs.text.States.{controller_word, driver_word}
use Rattle.ring_machine.specs.transmit.Machine.{TxParts}
use Rattle.ring_machine.specs.Queues.{QueueParts}
use Rattle.pictures.specs.Pictures.{number_or, owner_word, place_before}

abbrev pub number_or_null : Option ℕ → List ℕ
number_or_null n = number_or (codes "null") n

-- ---- a place

-- The fields of a receive write-back's second word (82599 datasheet, 7.1.6.2).
abbrev pub receive_fields : ℕ → List ℕ
receive_fields word = codes "{\"DD\":" ++ (decimal (word % 2) ++ (codes ",\"EOP\":" ++ (decimal (word / 2 % 2) ++ (codes ",\"PKT_LEN\":"
    ++ (decimal (word / 0x1_0000_0000 % 0x1_0000) ++ codes "}")))))

-- The fields of a transmit descriptor's second word (82599 datasheet, 7.2.3.2.4).
abbrev pub transmit_fields : ℕ → List ℕ
transmit_fields word = codes "{\"DD\":" ++ (decimal (word / 0x1_0000_0000 % 2) ++ (codes ",\"EOP\":" ++ (decimal (word / 0x100_0000 % 2)
    ++ (codes ",\"RS\":" ++ (decimal (word / 0x800_0000 % 2) ++ (codes ",\"IFCS\":" ++ (decimal (word / 0x200_0000 % 2)
    ++ (codes ",\"DEXT\":" ++ (decimal (word / 0x2000_0000 % 2) ++ (codes ",\"DTYP\":" ++ (decimal (word / 0x10_0000 % 16)
    ++ (codes ",\"DTALEN\":" ++ (decimal (word % 0x1_0000) ++ (codes ",\"PAYLEN\":" ++ (decimal (word / 0x4000_0000_0000) ++ codes "}")))))))))))))))

-- At a driver's place the word may be anything.
abbrev pub descriptor_fields : QueueKind → Owner → ℕ → List ℕ
descriptor_fields kind owner.Driver word = codes "null"
descriptor_fields Receive owner.Ring word = receive_fields word
descriptor_fields Receive owner.Controller word = receive_fields word
descriptor_fields Transmit owner.Ring word = transmit_fields word
descriptor_fields Transmit owner.Controller word = transmit_fields word

-- A place's number, owner and buffer.
abbrev pub place_members : Wrapped ℕ → ℕ → List ℕ
place_members w place = codes "{\"place\":" ++ (decimal place ++ (codes ",\"owner\":\"" ++ (owner_word (told_owner w place) ++ (codes "\",\"buffer\":"
    ++ (number_or_null (slot_at w.slots place) ++ codes ",\"descriptor\":")))))

abbrev pub place_object : QueueKind → Wrapped ℕ → ℕ → List ℕ
place_object kind w place = place_members w place ++ (descriptor_fields kind (told_owner w place) (slice_index w.words place) ++ codes "}")

-- The place that a step of this kind changed, if it was the queue's last: only this place can differ from the state
-- before the step.
abbrev pub rx_spot : Wrapped ℕ → RxStep ℕ → Option ℕ
rx_spot w (rx.Post b) = Some (place_before w.size w.fill)
rx_spot w rx.Fetch = Some w.serve
rx_spot w (rx.Store x eop) = Some (place_before w.size w.serve)
rx_spot w rx.Take = Some (place_before w.size w.next)
rx_spot w rx.Reclaim = Some (place_before w.size w.next)
rx_spot w step = None

abbrev pub tx_spot : Wrapped ℕ → TxStep (Posting ℕ) → Option ℕ
tx_spot w (tx.Post b) = Some (place_before w.size w.fill)
tx_spot w tx.Fetch = Some w.serve
tx_spot w tx.Send = Some (place_before w.size w.serve)
tx_spot w tx.Report = Some (place_before w.size w.serve)
tx_spot w tx.Clean = Some (place_before w.size w.next)
tx_spot w tx.Reclaim = Some (place_before w.size w.next)
tx_spot w step = None

abbrev pub spot_object : QueueKind → Wrapped ℕ → Option ℕ → List ℕ
spot_object kind w None = codes "null"
spot_object kind w (Some place) = place_object kind w place

-- ---- what the sides share and know

abbrev pub words_members : Wrapped ℕ → List ℕ
words_members w = codes "\"words\":{\"head\":" ++ (decimal w.head ++ (codes ",\"tail\":" ++ (decimal w.tail ++ (codes ",\"control\":" ++ decimal w.handshake.control))))

abbrev pub driver_members : Wrapped ℕ → List ℕ
driver_members w = codes "},\"driver\":{\"state\":\"" ++ (driver_word w.handshake.driver ++ (codes "\",\"fill\":" ++ (decimal w.fill ++ (codes ",\"next\":" ++ decimal w.next))))

abbrev pub controller_members : Wrapped ℕ → List ℕ
controller_members w = codes "},\"controller\":{\"state\":\"" ++ (controller_word w.handshake.controller ++ (codes "\",\"use\":" ++ (decimal w.serve
    ++ (codes ",\"known\":" ++ (decimal w.known ++ (codes ",\"held\":" ++ (number_or_null w.held ++ (codes ",\"loaded\":" ++ (decimal w.handshake.seen
    ++ (codes ",\"mid_frame\":" ++ decimal (bit (not w.whole))))))))))))

-- What only a receive queue has.
abbrev pub quiet_word : RxParts → List ℕ
quiet_word p = codes ",\"quiet\":" ++ decimal p.quiet

abbrev pub quiet_member : RxParts → List ℕ
quiet_member p = codes ",\"quiet\":" ++ (decimal (bit p.still) ++ codes "}")

abbrev pub rx_state : RxParts → List ℕ
rx_state p = words_members p.queue ++ (quiet_word p ++ (driver_members p.queue ++ (controller_members p.queue ++ quiet_member p)))

-- What only a transmit queue has. It has a head word if it reports by it.
abbrev pub head_word : TxParts → Option ℕ
head_word p = if by_head p.completion then Some p.report else None

abbrev pub head_member : TxParts → List ℕ
head_member p = codes ",\"head_word\":" ++ number_or_null (head_word p)

abbrev pub reported_members : TxParts → List ℕ
reported_members p = codes ",\"reported\":" ++ (decimal p.rep ++ (codes ",\"mid_frame\":" ++ decimal (bit (not p.ends))))

abbrev pub due_member : TxParts → List ℕ
due_member p = codes ",\"report_due\":" ++ (decimal (bit p.owed) ++ codes "}")

abbrev pub tx_state : TxParts → List ℕ
tx_state p = words_members p.queue ++ (head_member p ++ (driver_members p.queue ++ (reported_members p ++ (controller_members p.queue ++ due_member p))))

-- ---- after a move

abbrev pub obstacle_member : Option Obstacle → List ℕ
obstacle_member None = codes "null"
obstacle_member (Some o) = codes "\"" ++ (obstacle_text o ++ codes "\"")

-- The place, and the state.
abbrev pub rx_after : RxStep ℕ → RxParts → List ℕ
rx_after s p = codes ",\"at\":" ++ (spot_object Receive p.queue (rx_spot p.queue s) ++ (codes "," ++ rx_state p))

abbrev pub tx_after : TxStep (Posting ℕ) → TxParts → List ℕ
tx_after s p = codes ",\"at\":" ++ (spot_object Transmit p.queue (tx_spot p.queue s) ++ (codes "," ++ tx_state p))

abbrev pub rx_members : RxStep ℕ → Option RxParts → List ℕ
rx_members s None = []
rx_members s (Some p) = rx_after s p

abbrev pub tx_members : TxStep (Posting ℕ) → Option TxParts → List ℕ
tx_members s None = []
tx_members s (Some p) = tx_after s p

abbrev pub move_members : QueueParts → Move → List ℕ
move_members q (move.Receive n s) = rx_members s (slice_get q.receive n)
move_members q (move.Transmit n s) = tx_members s (slice_get q.transmit n)

-- The move, what hinders it in this state, and the state of its queue, if there is such a queue.
abbrev pub state_line : QueueParts → Move → List ℕ
state_line q m = codes "{\"line\":\"" ++ (text_of m ++ (codes "\",\"obstacle\":" ++ (obstacle_member (queue_obstacle q m) ++ (move_members q m ++ codes "}\n"))))

-- ---- before the first move

-- The name of a queue, of the direction of this letter, and its size.
abbrev pub queue_members : List ℕ → ℕ → ℕ → List ℕ
queue_members letter n size = codes "{\"queue\":\"" ++ (letter ++ (decimal n ++ (codes "\",\"size\":" ++ (decimal size ++ codes ","))))

abbrev pub rx_line : ℕ → RxParts → List ℕ
rx_line n p = queue_members (codes "r") n p.queue.size ++ (rx_state p ++ codes "}\n")

abbrev pub tx_line : ℕ → TxParts → List ℕ
tx_line n p = queue_members (codes "t") n p.queue.size ++ (tx_state p ++ codes "}\n")

abbrev pub rx_opening_line : ℕ → Option RxParts → List ℕ
rx_opening_line n None = []
rx_opening_line n (Some p) = rx_line n p

abbrev pub tx_opening_line : ℕ → Option TxParts → List ℕ
tx_opening_line n None = []
tx_opening_line n (Some p) = tx_line n p

abbrev pub pair_lines : QueueParts → ℕ → List ℕ
pair_lines q n = rx_opening_line n (slice_get q.receive n) ++ tx_opening_line n (slice_get q.transmit n)

-- The first pairs, as many as given.
abbrev pub opening_lines : QueueParts → ℕ → List ℕ
opening_lines q zero = []
opening_lines q (suc count) = opening_lines q count ++ pair_lines q count
