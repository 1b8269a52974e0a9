-- Each number and each flag is that of the plan.
use Rattle.std.proofs.Common.{◌≡◌, ap, refl, ℕ, Bool, Option, Some}
use Rattle.std.specs.Prelude.{not}
use Rattle.ring_model.specs.declared.states.Completion.{Completion}
use Rattle.settings.specs.declared.plan.SchedulePlan.{SchedulePlan}
use Rattle.settings.specs.declared.thresholds.Thresholds.{Thresholds}
use Rattle.command_line.proofs.ReplayWords.{begins_as}
use Rattle.command_line.proofs.lists.plan_in.Goals as goal

-- a plan, from its parts
from-parts : (plan : SchedulePlan) (k n : ℕ) (b : Bool) (c : Completion) (m r : ℕ) (d : Bool) (t : Option Thresholds) → k ≡ plan.pairs → n ≡ plan.ring → b ≡ plan.enabled → c ≡ plan.completion
    → m ≡ plan.moves → r ≡ plan.refused → d ≡ plan.device_only → t ≡ plan.driver
    → ◌≡◌ {A = SchedulePlan} (record { pairs = k; ring = n; enabled = b; completion = c; moves = m; refused = r; device_only = d; driver = t }) plan
from-parts plan k n b c m r d t pairs_are ring_is enabled_is completion_is moves_are refused_is device_is driver_is =
    rw (pairs_are, ring_is, enabled_is, completion_is, moves_are, refused_is, device_is, driver_is) refl

pub returns-clause-said : goal.returns-clause-said
returns-clause-said c plan has moves_are refused_are driver_is =
    ap (λ (p : SchedulePlan). Some p)
    (from-parts plan _ _ _ _ _ _ _ _ (c.in_ok-pairs.ensures plan.pairs has.queues.pairs) (c.in_ok-ring.ensures plan.ring has.queues.ring)
    (begins_as plan.enabled _ (c.flag_in-enabled.ensures (not plan.enabled) has.queues.off)) (c.completion_in-completion.ensures plan.completion has.queues.head)
    moves_are refused_are (c.flag_in-device_only.ensures plan.device_only has.device_only) driver_is)
