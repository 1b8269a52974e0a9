-- The request has the numbers of the recommended lists, and the queues and what is expected that the words say.
use Rattle.std.proofs.Common.{◌≡◌, ◌∙◌, ap, sym, true, false, Option, Some, None, unwrap_or}
use Rattle.requests.specs.declared.replay.ReplayOutput.{ReplayOutput}
use Rattle.settings.specs.declared.plan.SchedulePlan.{SchedulePlan}
use Rattle.requests.specs.declared.lists.ScheduleRequest.{ScheduleRequest}
use Rattle.command_line.proofs.RequestParts.{request-from}
use Rattle.command_line.proofs.lists.recommended_in.Goals as goal

pub returns-then-counts : goal.returns-then-counts
returns-then-counts c request has = let both : true ≡ false = sym c.if-counts.true ∙ c.counts.ensures ∙ has.uncounted in cc

pub returns-in_err-plan : goal.returns-in_err-plan
returns-in_err-plan c request has =
    let none : None ≡ Some request.plan = c.in_err-plan.ensures.said request.plan has.queues (sym has.is_recommended.moves) (sym has.is_recommended.refused) (sym has.is_recommended.driver) in cc

pub returns-in_err-expect : goal.returns-in_err-expect
returns-in_err-expect c request has = let none : None ≡ Some request.expect = c.in_err-expect.ensures request.expect has.expect in cc

pub returns : goal.returns
returns c request has =
    let plan = c.in_ok-plan.ensures.said request.plan has.queues (sym has.is_recommended.moves) (sym has.is_recommended.refused) (sym has.is_recommended.driver) in
    ap (λ (r : ScheduleRequest). Some r)
    (request-from request _ _ _ _ (ap (λ (o : Option SchedulePlan). unwrap_or o request.plan) plan) (sym has.is_recommended.seed)
    (sym has.is_recommended.count) (ap (λ (o : Option (Option ReplayOutput)). unwrap_or o request.expect) (c.in_ok-expect.ensures request.expect has.expect)))
