-- The plan has the thresholds that were tested for its rings.
use Rattle.std.proofs.Common.{◌≡◌, ◌∙◌, ap, sym, subst, Option}
use Rattle.std.specs.Prelude.{IfSome, IsSomeAnd, None, Some}
use Rattle.requests.specs.declared.lists.ScheduleRequest.{ScheduleRequest}
use Rattle.settings.specs.Thresholds.{Fit}
use Rattle.settings.specs.declared.plan.SchedulePlan.{SchedulePlan}
use Rattle.settings.specs.declared.thresholds.Thresholds.{Thresholds}
use Rattle.command_line.specs.ScheduleWords.{FollowsDriver}
use Rattle.command_line.proofs.drivers.driven_in.Goals as goal

-- a request for a plan follows the driver of the plan
follows : (o : Option ScheduleRequest) (plan : SchedulePlan) → IsSomeAnd plan.driver (Fit plan.ring) → plan.refused ≡ 0 → IfSome o (λ request. request.plan ≡ plan) → IfSome o FollowsDriver
follows None plan fit refused planned = tt
follows (Some request) plan fit refused planned = record {
  fit = subst (λ (p : SchedulePlan). IsSomeAnd p.driver (Fit p.ring)) (sym planned) fit;
  refused = ap (λ (p : SchedulePlan). p.refused) planned ∙ refused;
}

pub returns-clause-follows : goal.returns-clause-follows
returns-clause-follows c = follows c.request_of.result c.in_ok-plan.plan
    (subst (λ (o : Option Thresholds). IsSomeAnd o (Fit c.in_ok-plan.plan.ring)) (sym c.in_ok-plan.ensures.given.2) (c.fit.ensures.rings.0 c.if-not-fit.false))
    c.in_ok-plan.ensures.given.1 c.request_of.ensures.planned
