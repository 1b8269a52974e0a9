-- Requests of `schedules`, from their parts.
use Rattle.std.proofs.Common.{◌≡◌, refl, ℕ, Option}
use Rattle.requests.specs.declared.replay.ReplayOutput.{ReplayOutput}
use Rattle.settings.specs.declared.plan.SchedulePlan.{SchedulePlan}
use Rattle.requests.specs.declared.lists.ScheduleRequest.{ScheduleRequest}

pub request-from : (request : ScheduleRequest) (p : SchedulePlan) (s n : ℕ) (e : Option ReplayOutput) → p ≡ request.plan → s ≡ request.seed → n ≡ request.count → e ≡ request.expect
    → ◌≡◌ {A = ScheduleRequest} (record { plan = p; seed = s; count = n; expect = e }) request
request-from request p s n e plan_is seed_is count_is expect_is = rw (plan_is, seed_is, count_is, expect_is) refl
