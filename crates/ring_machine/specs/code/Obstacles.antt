-- Why a machine does not make a step: the first condition that does not hold. There is one exactly if the machine
-- refuses the step.
use Rattle.std.specs.Prelude.{◌≡◌, ℕ, Bool, true, false, not, ◌&&◌, ◌==◌, List, Option, Some, None, codes, is_none, option_map, slice_get, if◌then◌else◌}
use Rattle.ring_model.specs.declared.steps.ControlStep.{ControlStep}
use Rattle.ring_model.specs.declared.steps.ControlStep.TheVariants.{AskEnable, LookAsked, Answer, LookAnswered, AskDisable}
use Rattle.ring_model.specs.declared.steps.RxStep.{RxStep}
use Rattle.ring_model.specs.declared.steps.RxStep.TheVariants as rx
use Rattle.ring_model.specs.declared.steps.TxStep.{TxStep}
use Rattle.ring_model.specs.declared.steps.TxStep.TheVariants as tx
use Rattle.ring_model.specs.shared.Agreement.{Wrapped}
use Rattle.ring_model.specs.shared.Handshakes.{is_cleared, is_live, is_new, is_on, is_open, is_serving, is_stopped, is_tailed}
use Rattle.ring_model.specs.shared.Places.{place_next}
use Rattle.ring_model.specs.transmit.Ring.{Posting}
use Rattle.ring_model.specs.transmit.Steps.{by_head, is_there}
use Rattle.ring_machine.specs.declared.moves.Move.{Move}
use Rattle.ring_machine.specs.declared.moves.Move.TheVariants.{Receive, Transmit}
use Rattle.ring_machine.specs.declared.obstacle.Obstacle.{Obstacle}
use Rattle.ring_machine.specs.declared.obstacle.Obstacle.TheVariants.{NoQueue, NotOpen, NotLive, NotNew, NotOn, NotStopped, NotCleared, NotTailed, Full, NoneOut, SomeOut, PostedPart, NoReportAwaited, NotReported, NoHeadWord, NotServing, Serving, Holding, NotHolding, NoneKnown, Quiet, MidFrame, HeadBehind, ReportDue, NoReportDue, NothingAsked}
use Rattle.ring_machine.specs.code.Receive.{rx_may}
use Rattle.ring_machine.specs.code.Shared.{are_all_back}
use Rattle.ring_machine.specs.code.Transmit.{oldest_place, tx_may}
use Rattle.ring_machine.specs.Queues.{QueueParts}
use Rattle.ring_machine.specs.receive.Machine.{RxParts}
use Rattle.ring_machine.specs.transmit.Machine.{TxParts}

abbrev pub obstacle_text : Obstacle → List ℕ
obstacle_text NoQueue = codes "there is no such queue"
obstacle_text NotOpen = codes "driver asked for disabling"
obstacle_text NotLive = codes "driver does not see the queue enabled"
obstacle_text NotNew = codes "driver already asked for enabling"
obstacle_text NotOn = codes "driver is not On"
obstacle_text NotStopped = codes "driver is not Stopped"
obstacle_text NotCleared = codes "driver is not Cleared"
obstacle_text NotTailed = codes "driver is not Tailed"
obstacle_text Full = codes "ring is full"
obstacle_text NoneOut = codes "no buffer is outstanding"
obstacle_text SomeOut = codes "a buffer is outstanding"
obstacle_text PostedPart = codes "a frame is posted in part"
obstacle_text NoReportAwaited = codes "no report is outstanding"
obstacle_text NotReported = codes "place is not reported"
obstacle_text NoHeadWord = codes "queue reports in its descriptors"
obstacle_text NotServing = codes "controller is not serving"
obstacle_text Serving = codes "controller is serving"
obstacle_text Holding = codes "controller holds a buffer"
obstacle_text NotHolding = codes "controller holds no buffer"
obstacle_text NoneKnown = codes "controller knows of no descriptor"
obstacle_text Quiet = codes "controller is quiet"
obstacle_text MidFrame = codes "controller is in a frame"
obstacle_text HeadBehind = codes "head is not stored"
obstacle_text ReportDue = codes "a report is due"
obstacle_text NoReportDue = codes "no report is due"
obstacle_text NothingAsked = codes "controller loaded no request"

-- The other obstacle if this condition holds.
abbrev pub unless : Bool → Obstacle → Option Obstacle → Option Obstacle
unless true o rest = rest
unless false o rest = Some o

-- One condition.
abbrev pub needs : Bool → Obstacle → Option Obstacle
needs holds o = unless holds o None

abbrev pub post_obstacle : Wrapped ℕ → Option Obstacle
post_obstacle w = unless (is_open w.handshake.driver) NotOpen (needs (not (place_next w.size w.fill == w.next)) Full)

abbrev pub idle_obstacle : Wrapped ℕ → Option Obstacle → Option Obstacle
idle_obstacle w rest = unless (is_serving w.handshake.controller) NotServing (unless (is_none w.held) Holding rest)

abbrev pub fetch_obstacle : Wrapped ℕ → Option Obstacle → Option Obstacle
fetch_obstacle w rest = idle_obstacle w (unless (not (w.serve == w.known)) NoneKnown rest)

abbrev pub out_obstacle : Wrapped ℕ → Option Obstacle
out_obstacle w = needs (not (are_all_back w)) NoneOut

-- The answer to a loaded 1 needs a queue that is not served; to a loaded 3, one that is served and settled.
abbrev pub settled_obstacle : Wrapped ℕ → Option Obstacle → Option Obstacle
settled_obstacle w rest = idle_obstacle w (unless (w.head == w.serve) HeadBehind (unless w.whole MidFrame rest))

abbrev pub answer_obstacle : Wrapped ℕ → Option Obstacle → Option Obstacle
answer_obstacle w rest = if w.handshake.seen == 1 then needs (not (is_serving w.handshake.controller)) Serving
    else (if w.handshake.seen == 3 then settled_obstacle w rest else Some NothingAsked)

-- `rest` is the obstacle to answering a disabling that is not in the queue itself.
abbrev pub control_obstacle : Wrapped ℕ → ControlStep → Option Obstacle → Option Obstacle
control_obstacle w AskEnable rest = needs (is_new w.handshake.driver) NotNew
control_obstacle w LookAsked rest = None
control_obstacle w Answer rest = answer_obstacle w rest
control_obstacle w LookAnswered rest = None
control_obstacle w AskDisable rest = needs (is_on w.handshake.driver) NotOn

abbrev pub rx_obstacle : RxParts → RxStep ℕ → Option Obstacle
rx_obstacle p (rx.Post b) = post_obstacle p.queue
rx_obstacle p rx.Publish = needs (is_open p.queue.handshake.driver) NotOpen
rx_obstacle p rx.Look = needs (is_serving p.queue.handshake.controller) NotServing
rx_obstacle p rx.Fetch = fetch_obstacle p.queue (needs (not p.still) Quiet)
rx_obstacle p (rx.Store x eop) = needs (not (is_none p.queue.held)) NotHolding
rx_obstacle p rx.Take = unless (is_live p.queue.handshake.driver) NotLive (out_obstacle p.queue)
rx_obstacle p rx.Head = idle_obstacle p.queue None
rx_obstacle p (rx.Control c) = control_obstacle p.queue c None
rx_obstacle p rx.Reclaim = unless (is_stopped p.queue.handshake.driver) NotStopped (out_obstacle p.queue)
rx_obstacle p rx.StoreQuiet = idle_obstacle p.queue (needs p.queue.whole MidFrame)
rx_obstacle p rx.LoadQuiet = None
rx_obstacle p rx.ClearHead = unless (is_stopped p.queue.handshake.driver) NotStopped (needs (are_all_back p.queue) SomeOut)
rx_obstacle p rx.ClearTail = needs (is_cleared p.queue.handshake.driver) NotCleared
rx_obstacle p rx.ClearQuiet = needs (is_tailed p.queue.handshake.driver) NotTailed

abbrev pub tx_obstacle : TxParts → TxStep (Posting ℕ) → Option Obstacle
tx_obstacle p (tx.Post b) = post_obstacle p.queue
tx_obstacle p tx.Publish = unless (is_open p.queue.handshake.driver) NotOpen (needs p.ends PostedPart)
tx_obstacle p tx.Look = needs (is_serving p.queue.handshake.controller) NotServing
tx_obstacle p tx.Fetch = fetch_obstacle p.queue (needs (not p.owed) ReportDue)
tx_obstacle p tx.Send = needs (not (is_none p.queue.held)) NotHolding
tx_obstacle p tx.Report = needs p.owed NoReportDue
tx_obstacle p tx.LoadReport = unless (is_live p.queue.handshake.driver) NotLive (needs (is_there (oldest_place p)) NoReportAwaited)
tx_obstacle p tx.Clean = unless (is_live p.queue.handshake.driver) NotLive (needs (not (p.queue.next == p.rep)) NotReported)
tx_obstacle p (tx.Control c) = control_obstacle p.queue c (needs (not p.owed) ReportDue)
tx_obstacle p tx.Reclaim = unless (is_stopped p.queue.handshake.driver) NotStopped (out_obstacle p.queue)
tx_obstacle p tx.ClearHead = unless (is_stopped p.queue.handshake.driver) NotStopped (needs (are_all_back p.queue) SomeOut)
tx_obstacle p tx.ClearTail = needs (is_cleared p.queue.handshake.driver) NotCleared
tx_obstacle p tx.ClearReport = unless (by_head p.completion) NoHeadWord (needs (is_tailed p.queue.handshake.driver) NotTailed)

-- Of several queues, the obstacle of the one that a move names; `NoQueue` if it does not exist.
abbrev pub or_none_there : Option (Option Obstacle) → Option Obstacle
or_none_there None = Some NoQueue
or_none_there (Some o) = o

abbrev pub queue_obstacle : QueueParts → Move → Option Obstacle
queue_obstacle p (Receive q s) = or_none_there (option_map (λ m. rx_obstacle m s) (slice_get p.receive q))
queue_obstacle p (Transmit q s) = or_none_there (option_map (λ m. tx_obstacle m s) (slice_get p.transmit q))

-- Whether the queue that a move names makes it.
abbrev pub or_never : Option Bool → Bool
or_never None = false
or_never (Some may) = may

abbrev pub queue_may : QueueParts → Move → Bool
queue_may p (Receive q s) = or_never (option_map (λ m. rx_may m s) (slice_get p.receive q))
queue_may p (Transmit q s) = or_never (option_map (λ m. tx_may m s) (slice_get p.transmit q))
