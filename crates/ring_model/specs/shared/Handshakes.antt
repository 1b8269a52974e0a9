-- The handshake of enabling and disabling, the same for both directions. Control is 0 disabled, 1 enabling asked, 2
-- enabled, 3 disabling asked.
use Rattle.std.specs.Prelude.{ℕ, Bool, true, false, not, ◌&&◌, ◌||◌, ◌==◌, if◌then◌else◌}
use Rattle.ring_model.specs.declared.states.DriverState.{DriverState}
use Rattle.ring_model.specs.declared.states.DriverState.TheVariants.{New, Asked, On, Stopping, Stopped, Cleared, Tailed}
use Rattle.ring_model.specs.declared.states.ControllerState.{ControllerState}
use Rattle.ring_model.specs.declared.states.ControllerState.TheVariants.{Off, Serving, Ended}
use Rattle.ring_model.specs.declared.handshake.Handshake.{Handshake}
use Rattle.ring_model.specs.declared.steps.ControlStep.{ControlStep}
use Rattle.ring_model.specs.declared.steps.ControlStep.TheVariants.{AskEnable, LookAsked, Answer, LookAnswered, AskDisable}

-- The driver may post and publish.
abbrev pub is_open : DriverState → Bool
is_open New = true
is_open Asked = true
is_open On = true
is_open _ = false

-- The driver may look for completed work.
abbrev pub is_live : DriverState → Bool
is_live On = true
is_live Stopping = true
is_live _ = false

-- The driver has seen its disabling answered.
abbrev pub is_answered : DriverState → Bool
is_answered Stopped = true
is_answered Cleared = true
is_answered Tailed = true
is_answered _ = false

-- All buffers have come back, and the driver is clearing the queue's words.
abbrev pub is_emptied : DriverState → Bool
is_emptied Cleared = true
is_emptied Tailed = true
is_emptied _ = false

abbrev pub is_new : DriverState → Bool
is_new New = true
is_new _ = false

abbrev pub is_on : DriverState → Bool
is_on On = true
is_on _ = false

abbrev pub is_stopped : DriverState → Bool
is_stopped Stopped = true
is_stopped _ = false

abbrev pub is_cleared : DriverState → Bool
is_cleared Cleared = true
is_cleared _ = false

abbrev pub is_tailed : DriverState → Bool
is_tailed Tailed = true
is_tailed _ = false

abbrev pub is_serving : ControllerState → Bool
is_serving Serving = true
is_serving _ = false

abbrev pub is_ended : ControllerState → Bool
is_ended Ended = true
is_ended _ = false

-- A new queue's handshake: enabled and seen enabled on both sides, or disabled.
abbrev pub first_handshake : Bool → Handshake
first_handshake true = record { control = 2; seen = 2; driver = On; controller = Serving }
first_handshake false = record { control = 0; seen = 0; driver = New; controller = Off }

-- C1: the driver asks for enabling (1).
abbrev pub ask_enable : Handshake → Handshake
ask_enable h = record h { control = 1; driver = Asked }

-- C2: the controller loads the control word.
abbrev pub look_asked : Handshake → Handshake
look_asked h = record h { seen = h.control }

-- C3, if enabling is asked.
abbrev pub can_enable : Handshake → Bool
can_enable h = (h.seen == 1) && not (is_serving h.controller)

abbrev pub enable : Handshake → Handshake
enable h = record h { control = 2; seen = 2; controller = Serving }

-- C3, if disabling is asked, as far as the handshake decides it.
abbrev pub can_disable : Handshake → Bool
can_disable h = (h.seen == 3) && is_serving h.controller

abbrev pub disable : Handshake → Handshake
disable h = record h { control = 0; seen = 0; controller = Ended }

-- C4: the driver's state after it loads this control value.
abbrev pub learned : DriverState → ℕ → DriverState
learned Asked control = if control == 2 then On else Asked
learned Stopping control = if control == 0 then Stopped else Stopping
learned state control = state

abbrev pub look_answered : Handshake → Handshake
look_answered h = record h { driver = learned h.driver h.control }

-- C5: the driver asks for disabling (3).
abbrev pub ask_disable : Handshake → Handshake
ask_disable h = record h { control = 3; driver = Stopping }

-- C1 to C5. A disabling is answered only if the queue is settled.
abbrev pub may_control_step : Handshake → ControlStep → Bool → Bool
may_control_step h AskEnable settled = is_new h.driver
may_control_step h LookAsked settled = true
may_control_step h Answer settled = can_enable h || (can_disable h && settled)
may_control_step h LookAnswered settled = true
may_control_step h AskDisable settled = is_on h.driver

abbrev pub after_control_step : Handshake → ControlStep → Handshake
after_control_step h AskEnable = ask_enable h
after_control_step h LookAsked = look_asked h
after_control_step h Answer = if can_enable h then enable h else disable h
after_control_step h LookAnswered = look_answered h
after_control_step h AskDisable = ask_disable h

-- Whether the step answers an enabling.
-- No worked row decides whether the answer to a disabling counts; the laws' proofs rely on it.
abbrev pub enables : Handshake → ControlStep → Bool
enables h Answer = can_enable h
enables h _ = false

-- The control value that the step stores or loads.
abbrev pub control_value : Handshake → ControlStep → ℕ
control_value h AskEnable = 1
control_value h LookAsked = h.control
control_value h Answer = if can_enable h then 2 else 0
control_value h LookAnswered = h.control
control_value h AskDisable = 3

-- The controller answered a disabling, and the driver has not begun another epoch.
abbrev pub has_ended : Handshake → Bool
has_ended h = is_ended h.controller && not (is_open h.driver)

-- The driver has begun another epoch, and the controller has not answered yet. The controller still has the places of
-- the previous epoch.
abbrev pub is_between_epochs : Handshake → Bool
is_between_epochs h = is_ended h.controller && is_open h.driver
