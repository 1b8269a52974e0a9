-- A step has no obstacle exactly if the machine makes it.
use Rattle.std.proofs.Common.{◌≡◌, ◌∙◌, ℕ, Bool, true, false, not, ◌&&◌, ◌==◌, Option, Some, None, refl, ap, if◌then◌else◌}
use Rattle.std.proofs.lemmas.Bool.{eqb-true}
use Rattle.std.specs.Prelude.{◌||◌, is_none, option_map, slice_get}
use Rattle.ring_model.specs.declared.handshake.Handshake.{Handshake}
use Rattle.ring_model.specs.declared.steps.ControlStep.{ControlStep}
use Rattle.ring_model.specs.declared.steps.ControlStep.TheVariants.{AskEnable, LookAsked, Answer, LookAnswered, AskDisable}
use Rattle.ring_model.specs.declared.steps.RxStep.{RxStep}
use Rattle.ring_model.specs.declared.steps.RxStep.TheVariants as rx
use Rattle.ring_model.specs.declared.steps.TxStep.{TxStep}
use Rattle.ring_model.specs.declared.steps.TxStep.TheVariants as tx
use Rattle.ring_model.specs.shared.Agreement.{Wrapped}
use Rattle.ring_model.specs.shared.Handshakes.{is_cleared, is_live, is_new, is_on, is_open, is_serving, is_stopped, is_tailed, may_control_step}
use Rattle.ring_model.specs.shared.Places.{place_next}
use Rattle.ring_model.specs.transmit.Ring.{Posting}
use Rattle.ring_model.specs.transmit.Steps.{by_head, is_there}
use Rattle.ring_machine.specs.declared.moves.Move.{Move}
use Rattle.ring_machine.specs.declared.moves.Move.TheVariants.{Receive, Transmit}
use Rattle.ring_machine.specs.declared.obstacle.Obstacle.{Obstacle}
use Rattle.ring_machine.specs.declared.obstacle.Obstacle.TheVariants as obstacle
use Rattle.ring_machine.specs.code.Obstacles.{answer_obstacle, fetch_obstacle, idle_obstacle, needs, or_never, or_none_there, out_obstacle, post_obstacle, queue_may, queue_obstacle, rx_obstacle, settled_obstacle, control_obstacle, tx_obstacle, unless}
use Rattle.ring_machine.specs.code.Receive.{rx_may}
use Rattle.ring_machine.specs.code.Shared.{are_all_back, can_fetch, can_post, is_idle, looks_settled}
use Rattle.ring_machine.specs.code.Transmit.{oldest_place, tx_may}
use Rattle.ring_machine.specs.Queues.{QueueParts}
use Rattle.ring_machine.specs.receive.Machine.{RxParts}
use Rattle.ring_machine.specs.transmit.Machine.{TxParts}

one : (b : Bool) (o : Obstacle) → is_none (needs b o) ≡ b
one true o = refl
one false o = refl

more : (b : Bool) (o : Obstacle) (rest : Option Obstacle) (r : Bool) → is_none rest ≡ r → is_none (unless b o rest) ≡ (b && r)
more true o rest r e = e
more false o rest r e = refl

two : (a b : Bool) (x y : Obstacle) → is_none (unless a x (needs b y)) ≡ (a && b)
two a b x y = more a x (needs b y) b (one b y)

-- what is idle, and more
idle : (w : Wrapped ℕ) (rest : Option Obstacle) (r : Bool) → is_none rest ≡ r → is_none (idle_obstacle w rest) ≡ (is_idle w && r)
idle w rest r e = by_case (is_serving w.handshake.controller) (is_none w.held)
  where
    by_case : (a b : Bool) → is_none (unless a obstacle.NotServing (unless b obstacle.Holding rest)) ≡ ((a && b) && r)
    by_case true true = e
    by_case true false = refl
    by_case false b = refl

fetches : (w : Wrapped ℕ) (rest : Option Obstacle) (r : Bool) → is_none rest ≡ r → is_none (fetch_obstacle w rest) ≡ (can_fetch w && r)
fetches w rest r e = idle w (unless (not (w.serve == w.known)) obstacle.NoneKnown rest) (not (w.serve == w.known) && r) (more (not (w.serve == w.known)) obstacle.NoneKnown rest r e)
    ∙ regroup (is_idle w) (not (w.serve == w.known))
  where
    regroup : (a b : Bool) → (a && (b && r)) ≡ ((a && b) && r)
    regroup true b = refl
    regroup false b = refl

-- serving and settled, beside what else hinders
settled : (w : Wrapped ℕ) (rest : Option Obstacle) (r : Bool) → is_none rest ≡ r
    → is_none (settled_obstacle w rest) ≡ (is_serving w.handshake.controller && (looks_settled w && r))
settled w rest r e = by_case (is_serving w.handshake.controller) (is_none w.held) (w.head == w.serve) w.whole
  where
    by_case : (a b c d : Bool) → is_none (unless a obstacle.NotServing (unless b obstacle.Holding (unless c obstacle.HeadBehind (unless d obstacle.MidFrame rest)))) ≡ (a && ((b && c && d) && r))
    by_case false b c d = refl
    by_case true false c d = refl
    by_case true true false d = refl
    by_case true true true false = refl
    by_case true true true true = e

-- a control value is not both 1 and 3
answers-by : (serving settles one three : Bool) (disabling : Option Obstacle) → (one ≡ true → three ≡ false) → is_none disabling ≡ (serving && settles)
    → is_none (if one then needs (not serving) obstacle.Serving else (if three then disabling else Some obstacle.NothingAsked))
    ≡ ((one && not serving) || ((three && serving) && settles))
answers-by serving settles true three disabling apart e = rw (apart refl) (one_more serving)
  where
    one_more : (b : Bool) → is_none (needs (not b) obstacle.Serving) ≡ ((true && not b) || ((false && b) && settles))
    one_more true = refl
    one_more false = refl
answers-by serving settles false true disabling apart e = e
answers-by serving settles false false disabling apart e = refl

not_three : (n : ℕ) → (n == 1) ≡ true → (n == 3) ≡ false
not_three n e = rw (eqb-true n 1 e) refl

answers : (w : Wrapped ℕ) (rest : Option Obstacle) (r : Bool) → is_none rest ≡ r → is_none (answer_obstacle w rest) ≡ may_control_step w.handshake Answer (looks_settled w && r)
answers w rest r e = answers-by (is_serving w.handshake.controller) (looks_settled w && r) (w.handshake.seen == 1) (w.handshake.seen == 3) (settled_obstacle w rest)
    (not_three w.handshake.seen) (settled w rest r e)

control_steps : (w : Wrapped ℕ) (c : ControlStep) (rest : Option Obstacle) (r : Bool) → is_none rest ≡ r → is_none (control_obstacle w c rest) ≡ may_control_step w.handshake c (looks_settled w && r)
control_steps w AskEnable rest r e = one (is_new w.handshake.driver) obstacle.NotNew
control_steps w LookAsked rest r e = refl
control_steps w Answer rest r e = answers w rest r e
control_steps w LookAnswered rest r e = refl
control_steps w AskDisable rest r e = one (is_on w.handshake.driver) obstacle.NotOn

and_true : (b : Bool) → (b && true) ≡ b
and_true true = refl
and_true false = refl

pub rx_exact : (p : RxParts) (s : RxStep ℕ) → is_none (rx_obstacle p s) ≡ rx_may p s
rx_exact p (rx.Post b) = two (is_open p.queue.handshake.driver) (not (place_next p.queue.size p.queue.fill == p.queue.next)) obstacle.NotOpen obstacle.Full
rx_exact p rx.Publish = one (is_open p.queue.handshake.driver) obstacle.NotOpen
rx_exact p rx.Look = one (is_serving p.queue.handshake.controller) obstacle.NotServing
rx_exact p rx.Fetch = fetches p.queue (needs (not p.still) obstacle.Quiet) (not p.still) (one (not p.still) obstacle.Quiet)
rx_exact p (rx.Store x eop) = one (not (is_none p.queue.held)) obstacle.NotHolding
rx_exact p rx.Take = two (is_live p.queue.handshake.driver) (not (are_all_back p.queue)) obstacle.NotLive obstacle.NoneOut
rx_exact p rx.Head = idle p.queue None true refl ∙ and_true (is_idle p.queue)
rx_exact p (rx.Control c) = control_steps p.queue c None true refl ∙ ap (may_control_step p.queue.handshake c) (and_true (looks_settled p.queue))
rx_exact p rx.Reclaim = two (is_stopped p.queue.handshake.driver) (not (are_all_back p.queue)) obstacle.NotStopped obstacle.NoneOut
rx_exact p rx.StoreQuiet = idle p.queue (needs p.queue.whole obstacle.MidFrame) p.queue.whole (one p.queue.whole obstacle.MidFrame)
rx_exact p rx.LoadQuiet = refl
rx_exact p rx.ClearHead = two (is_stopped p.queue.handshake.driver) (are_all_back p.queue) obstacle.NotStopped obstacle.SomeOut
rx_exact p rx.ClearTail = one (is_cleared p.queue.handshake.driver) obstacle.NotCleared
rx_exact p rx.ClearQuiet = one (is_tailed p.queue.handshake.driver) obstacle.NotTailed

pub tx_exact : (p : TxParts) (s : TxStep (Posting ℕ)) → is_none (tx_obstacle p s) ≡ tx_may p s
tx_exact p (tx.Post b) = two (is_open p.queue.handshake.driver) (not (place_next p.queue.size p.queue.fill == p.queue.next)) obstacle.NotOpen obstacle.Full
tx_exact p tx.Publish = two (is_open p.queue.handshake.driver) p.ends obstacle.NotOpen obstacle.PostedPart
tx_exact p tx.Look = one (is_serving p.queue.handshake.controller) obstacle.NotServing
tx_exact p tx.Fetch = fetches p.queue (needs (not p.owed) obstacle.ReportDue) (not p.owed) (one (not p.owed) obstacle.ReportDue)
tx_exact p tx.Send = one (not (is_none p.queue.held)) obstacle.NotHolding
tx_exact p tx.Report = one p.owed obstacle.NoReportDue
tx_exact p tx.LoadReport = two (is_live p.queue.handshake.driver) (is_there (oldest_place p)) obstacle.NotLive obstacle.NoReportAwaited
tx_exact p tx.Clean = two (is_live p.queue.handshake.driver) (not (p.queue.next == p.rep)) obstacle.NotLive obstacle.NotReported
tx_exact p (tx.Control c) = control_steps p.queue c (needs (not p.owed) obstacle.ReportDue) (not p.owed) (one (not p.owed) obstacle.ReportDue)
tx_exact p tx.Reclaim = two (is_stopped p.queue.handshake.driver) (not (are_all_back p.queue)) obstacle.NotStopped obstacle.NoneOut
tx_exact p tx.ClearHead = two (is_stopped p.queue.handshake.driver) (are_all_back p.queue) obstacle.NotStopped obstacle.SomeOut
tx_exact p tx.ClearTail = one (is_cleared p.queue.handshake.driver) obstacle.NotCleared
tx_exact p tx.ClearReport = two (by_head p.completion) (is_tailed p.queue.handshake.driver) obstacle.NoHeadWord obstacle.NotTailed

pub queue_exact : (p : QueueParts) (m : Move) → is_none (queue_obstacle p m) ≡ queue_may p m
queue_exact p (Receive q s) = by_found (slice_get p.receive q)
  where
    by_found : (found : Option RxParts) → is_none (or_none_there (option_map (λ (m : RxParts). rx_obstacle m s) found)) ≡ or_never (option_map (λ (m : RxParts). rx_may m s) found)
    by_found None = refl
    by_found (Some m) = rx_exact m s
queue_exact p (Transmit q s) = by_found (slice_get p.transmit q)
  where
    by_found : (found : Option TxParts) → is_none (or_none_there (option_map (λ (m : TxParts). tx_obstacle m s) found)) ≡ or_never (option_map (λ (m : TxParts). tx_may m s) found)
    by_found None = refl
    by_found (Some m) = tx_exact m s
