-- The handshake: what each control step makes of the two states, the control word and the value seen.
use Rattle.std.proofs.Common.{◌≡◌, ℕ, Bool, true, false, ◌||◌, sym, refl, subst, arith, if◌then◌else◌}
use Rattle.std.specs.Prelude.{◌==◌}
use Rattle.std.proofs.lemmas.Bool.{false≢true, true≢false}
use Rattle.ring_model.specs.declared.states.DriverState.{DriverState}
use Rattle.ring_model.specs.declared.states.DriverState.TheVariants.{New, Asked, On, Stopping, Stopped, Cleared, Tailed}
use Rattle.ring_model.specs.declared.states.ControllerState.{ControllerState}
use Rattle.ring_model.specs.declared.states.ControllerState.TheVariants.{Off, Serving, Ended}
use Rattle.ring_model.specs.shared.Handshakes.{is_open, is_live, is_answered, is_serving, is_ended, is_new, is_on, is_stopped, is_cleared, is_tailed, learned}
use Rattle.ring_model.specs.shared.Handshakes.{is_emptied}
use Rattle.ring_model.specs.shared.Laws.{ControlFits}

-- What one test on a driver's state tells of another
pub new_open : (d : DriverState) → is_new d ≡ true → is_open d ≡ true
new_open New e = refl
new_open _ e = absurd (false≢true e)

pub on_open : (d : DriverState) → is_on d ≡ true → is_open d ≡ true
on_open On e = refl
on_open _ e = absurd (false≢true e)

pub open_unanswered : (d : DriverState) → is_open d ≡ true → is_answered d ≡ false
open_unanswered New e = refl
open_unanswered Asked e = refl
open_unanswered On e = refl
open_unanswered _ e = absurd (false≢true e)

pub live_unanswered : (d : DriverState) → is_live d ≡ true → is_answered d ≡ false
live_unanswered On e = refl
live_unanswered Stopping e = refl
live_unanswered _ e = absurd (false≢true e)

pub unanswered_full : (d : DriverState) → is_answered d ≡ false → is_emptied d ≡ false
unanswered_full New e = refl
unanswered_full Asked e = refl
unanswered_full On e = refl
unanswered_full Stopping e = refl
unanswered_full _ e = absurd (true≢false e)

pub stopped_full : (d : DriverState) → is_stopped d ≡ true → is_emptied d ≡ false
stopped_full Stopped e = refl
stopped_full _ e = absurd (false≢true e)

pub stopped_answered : (d : DriverState) → is_stopped d ≡ true → is_answered d ≡ true
stopped_answered Stopped e = refl
stopped_answered _ e = absurd (false≢true e)

pub cleared_emptied : (d : DriverState) → is_cleared d ≡ true → is_emptied d ≡ true
cleared_emptied Cleared e = refl
cleared_emptied _ e = absurd (false≢true e)

pub tailed_emptied : (d : DriverState) → is_tailed d ≡ true → is_emptied d ≡ true
tailed_emptied Tailed e = refl
tailed_emptied _ e = absurd (false≢true e)

pub emptied_answered : (d : DriverState) → is_emptied d ≡ true → is_answered d ≡ true
emptied_answered Cleared e = refl
emptied_answered Tailed e = refl
emptied_answered _ e = absurd (false≢true e)

pub answered_closed : (d : DriverState) → is_answered d ≡ true → is_open d ≡ false
answered_closed Stopped e = refl
answered_closed Cleared e = refl
answered_closed Tailed e = refl
answered_closed _ e = absurd (false≢true e)

-- once the disabling was seen answered, the controller has ended, and both words are 0
pub answered_ended : (d : DriverState) (c : ControllerState) (control seen : ℕ) → is_answered d ≡ true → ControlFits d c control seen → (c ≡ Ended) × (control ≡ 0) × (seen ≡ 0)
answered_ended Stopped Ended control seen e s = (refl, s.0, s.1)
answered_ended Cleared Ended control seen e s = (refl, s.0, s.1)
answered_ended Tailed Ended control seen e s = (refl, s.0, s.1)
answered_ended Stopped Off control seen e s = absurd s
answered_ended Cleared Off control seen e s = absurd s
answered_ended Tailed Off control seen e s = absurd s
answered_ended Stopped Serving control seen e s = absurd s
answered_ended Cleared Serving control seen e s = absurd s
answered_ended Tailed Serving control seen e s = absurd s
answered_ended _ _ control seen e s = absurd (false≢true e)

pub serving_unanswered : (d : DriverState) (c : ControllerState) (control seen : ℕ) → is_serving c ≡ true → ControlFits d c control seen → is_answered d ≡ false
serving_unanswered Asked Serving control seen e s = refl
serving_unanswered On Serving control seen e s = refl
serving_unanswered Stopping Serving control seen e s = refl
serving_unanswered New Serving control seen e s = refl
serving_unanswered Stopped Serving control seen e s = absurd s
serving_unanswered Cleared Serving control seen e s = absurd s
serving_unanswered Tailed Serving control seen e s = absurd s
serving_unanswered _ _ control seen e s = absurd (false≢true e)

-- C1
pub control_steps-ask_enable : (d : DriverState) (c : ControllerState) (control seen : ℕ) → is_new d ≡ true → ControlFits d c control seen → ControlFits Asked c 1 seen
control_steps-ask_enable New Off control seen e s = let z = s.1 in (refl, omega arith)
control_steps-ask_enable New Serving control seen e s = absurd s
control_steps-ask_enable New Ended control seen e s = let z = s.1 in (refl, omega arith)
control_steps-ask_enable _ _ control seen e s = absurd (false≢true e)

-- C2
pub control_steps-look_asked : (d : DriverState) (c : ControllerState) (control seen : ℕ) → ControlFits d c control seen → ControlFits d c control control
control_steps-look_asked New Off control seen s = (s.0, s.0)
control_steps-look_asked New Serving control seen s = s
control_steps-look_asked New Ended control seen s = (s.0, s.0)
control_steps-look_asked Asked Off control seen s = let z = s.0 in (s.0, omega arith)
control_steps-look_asked Asked Serving control seen s = (s.0, s.0)
control_steps-look_asked Asked Ended control seen s = let z = s.0 in (s.0, omega arith)
control_steps-look_asked On Serving control seen s = (s.0, s.0)
control_steps-look_asked Stopping Serving control seen s = let z = s.0 in (s.0, omega arith, omega arith)
control_steps-look_asked Stopping Ended control seen s = (s.0, s.0)
control_steps-look_asked Stopped Ended control seen s = (s.0, s.0)
control_steps-look_asked Cleared Ended control seen s = (s.0, s.0)
control_steps-look_asked Tailed Ended control seen s = (s.0, s.0)
control_steps-look_asked _ _ control seen s = absurd s

-- C3: the enabling
pub control_steps-enable : (d : DriverState) (c : ControllerState) (control seen : ℕ) → seen ≡ 1 → ControlFits d c control seen → ControlFits d Serving 2 2 × (is_open d ≡ true)
control_steps-enable Asked Off control seen e s = ((refl, refl), refl)
control_steps-enable Asked Ended control seen e s = ((refl, refl), refl)
control_steps-enable New Off control seen e s = let z = s.1 in absurd (omega arith)
control_steps-enable New Ended control seen e s = let z = s.1 in absurd (omega arith)
control_steps-enable Asked Serving control seen e s = let z = s.1 in absurd (omega arith)
control_steps-enable On Serving control seen e s = let z = s.1 in absurd (omega arith)
control_steps-enable Stopping Serving control seen e s = let z = s.1 in absurd (omega arith)
control_steps-enable Stopping Ended control seen e s = let z = s.1 in absurd (omega arith)
control_steps-enable Stopped Ended control seen e s = let z = s.1 in absurd (omega arith)
control_steps-enable Cleared Ended control seen e s = let z = s.1 in absurd (omega arith)
control_steps-enable Tailed Ended control seen e s = let z = s.1 in absurd (omega arith)
control_steps-enable _ _ control seen e s = absurd s

-- C3: the disabling
pub control_steps-disable : (d : DriverState) (c : ControllerState) (control seen : ℕ) → seen ≡ 3 → is_serving c ≡ true → ControlFits d c control seen → ControlFits d Ended 0 0 × (is_open d ≡ false)
control_steps-disable Stopping Serving control seen e t s = ((refl, refl), refl)
control_steps-disable New Serving control seen e t s = absurd s
control_steps-disable Asked Serving control seen e t s = let z = s.1 in absurd (omega arith)
control_steps-disable On Serving control seen e t s = let z = s.1 in absurd (omega arith)
control_steps-disable Stopped Serving control seen e t s = absurd s
control_steps-disable Cleared Serving control seen e t s = absurd s
control_steps-disable Tailed Serving control seen e t s = absurd s
control_steps-disable _ _ control seen e t s = absurd (false≢true t)

-- C4
pub control_steps-look_answered : (d : DriverState) (c : ControllerState) (control seen : ℕ) → ControlFits d c control seen → ControlFits (learned d control) c control seen
control_steps-look_answered Asked Off control seen s = subst (λ (k : ℕ). ControlFits (learned Asked k) Off k seen) (sym s.0) (refl, s.1)
control_steps-look_answered Asked Serving control seen s = subst (λ (k : ℕ). ControlFits (learned Asked k) Serving k seen) (sym s.0) (refl, s.1)
control_steps-look_answered Asked Ended control seen s = subst (λ (k : ℕ). ControlFits (learned Asked k) Ended k seen) (sym s.0) (refl, s.1)
control_steps-look_answered Stopping Serving control seen s = subst (λ (k : ℕ). ControlFits (learned Stopping k) Serving k seen) (sym s.0) (refl, s.1, s.2)
control_steps-look_answered Stopping Ended control seen s = subst (λ (k : ℕ). ControlFits (learned Stopping k) Ended k seen) (sym s.0) (refl, s.1)
control_steps-look_answered Stopping Off control seen s = absurd s
control_steps-look_answered New _ control seen s = s
control_steps-look_answered On _ control seen s = s
control_steps-look_answered Stopped _ control seen s = s
control_steps-look_answered Cleared _ control seen s = s
control_steps-look_answered Tailed _ control seen s = s

-- a test that answers the same on two states answers so on either
one_of : (test : DriverState → Bool) (b answer : Bool) (x y : DriverState) → test x ≡ answer → test y ≡ answer → test (if b then x else y) ≡ answer
one_of test true answer x y p q = p
one_of test false answer x y p q = q

pub learned_open : (d : DriverState) (control : ℕ) → is_open (learned d control) ≡ is_open d
learned_open Asked control = one_of is_open (control == 2) true On Asked refl refl
learned_open Stopping control = one_of is_open (control == 0) false Stopped Stopping refl refl
learned_open _ control = refl

pub learned_emptied : (d : DriverState) (control : ℕ) → is_emptied (learned d control) ≡ is_emptied d
learned_emptied Asked control = one_of is_emptied (control == 2) false On Asked refl refl
learned_emptied Stopping control = one_of is_emptied (control == 0) false Stopped Stopping refl refl
learned_emptied _ control = refl

pub learned_tailed : (d : DriverState) (control : ℕ) → is_tailed (learned d control) ≡ is_tailed d
learned_tailed Asked control = one_of is_tailed (control == 2) false On Asked refl refl
learned_tailed Stopping control = one_of is_tailed (control == 0) false Stopped Stopping refl refl
learned_tailed _ control = refl

-- what was seen answered stays so
pub learned_answered : (d : DriverState) (control : ℕ) → is_answered d ≡ true → is_answered (learned d control) ≡ true
learned_answered Asked control e = absurd (false≢true e)
learned_answered Stopping control e = absurd (false≢true e)
learned_answered _ control e = e

pub learned_unanswered : (d : DriverState) (control : ℕ) → is_answered (learned d control) ≡ false → is_answered d ≡ false
learned_unanswered Asked control e = refl
learned_unanswered Stopping control e = refl
learned_unanswered _ control e = e

-- C5
pub control_steps-ask_disable : (d : DriverState) (c : ControllerState) (control seen : ℕ) → is_on d ≡ true → ControlFits d c control seen → ControlFits Stopping c 3 seen
control_steps-ask_disable On Serving control seen e s = let z = s.1 in (refl, omega arith, omega arith)
control_steps-ask_disable On Off control seen e s = absurd s
control_steps-ask_disable On Ended control seen e s = absurd s
control_steps-ask_disable _ _ control seen e s = absurd (false≢true e)

-- C9 and on: both words are 0 and stay
pub control_steps-clear_head : (d : DriverState) (c : ControllerState) (control seen : ℕ) → is_stopped d ≡ true → ControlFits d c control seen → ControlFits Cleared c control seen
control_steps-clear_head Stopped Off control seen e s = s
control_steps-clear_head Stopped Serving control seen e s = s
control_steps-clear_head Stopped Ended control seen e s = s
control_steps-clear_head _ _ control seen e s = absurd (false≢true e)

pub control_steps-clear_tail : (d : DriverState) (c : ControllerState) (control seen : ℕ) → is_cleared d ≡ true → ControlFits d c control seen → ControlFits Tailed c control seen
control_steps-clear_tail Cleared Off control seen e s = s
control_steps-clear_tail Cleared Serving control seen e s = s
control_steps-clear_tail Cleared Ended control seen e s = s
control_steps-clear_tail _ _ control seen e s = absurd (false≢true e)

pub control_steps-renew : (d : DriverState) (c : ControllerState) (control seen : ℕ) → is_tailed d ≡ true → ControlFits d c control seen → ControlFits New c control seen × (is_serving c ≡ false)
control_steps-renew Tailed Ended control seen e s = (s, refl)
control_steps-renew Tailed Off control seen e s = absurd s
control_steps-renew Tailed Serving control seen e s = absurd s
control_steps-renew _ _ control seen e s = absurd (false≢true e)

pub serving_unended : (c : ControllerState) → is_serving c ≡ true → is_ended c ≡ false
serving_unended Serving e = refl
serving_unended _ e = absurd (false≢true e)

pub on_serving : (d : DriverState) (c : ControllerState) (control seen : ℕ) → is_on d ≡ true → ControlFits d c control seen → is_serving c ≡ true
on_serving On Serving control seen e s = refl
on_serving On Off control seen e s = absurd s
on_serving On Ended control seen e s = absurd s
on_serving _ _ control seen e s = absurd (false≢true e)

-- a disabling that was answered, and whose head is not cleared
pub ended_full : (d : DriverState) (c : ControllerState) (control seen : ℕ) → is_ended c ≡ true → (is_live d || is_stopped d) ≡ true → ControlFits d c control seen → (is_open d ≡ false) × (is_emptied d ≡ false)
ended_full Stopping Ended control seen e l s = (refl, refl)
ended_full Stopped Ended control seen e l s = (refl, refl)
ended_full On Ended control seen e l s = absurd s
ended_full New Ended control seen e l s = absurd (false≢true l)
ended_full Asked Ended control seen e l s = absurd (false≢true l)
ended_full Cleared Ended control seen e l s = absurd (false≢true l)
ended_full Tailed Ended control seen e l s = absurd (false≢true l)
ended_full _ _ control seen e l s = absurd (false≢true e)
