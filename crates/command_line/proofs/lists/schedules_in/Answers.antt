-- The plan is that of the request.
use Rattle.std.proofs.Common.{◌≡◌, ap, sym, Option, Some, None, unwrap_or}
use Rattle.settings.specs.declared.plan.SchedulePlan.{SchedulePlan}
use Rattle.command_line.proofs.lists.schedules_in.Goals as goal

pub returns-in_err-plan : goal.returns-in_err-plan
returns-in_err-plan c request has =
    let none : None ≡ Some request.plan = c.in_err-plan.ensures.said request.plan has.queues (c.in_ok-moves.ensures request.plan.moves has.moves)
    (c.in_ok-refused.ensures request.plan.refused has.refused) (sym has.driver) in
    cc

pub returns : goal.returns
returns c request has =
    let plan = c.in_ok-plan.ensures.said request.plan has.queues (c.in_ok-moves.ensures request.plan.moves has.moves)
    (c.in_ok-refused.ensures request.plan.refused has.refused) (sym has.driver) in
    c.request_of.ensures.said request has.seed has.count has.expect (ap (λ (o : Option SchedulePlan). unwrap_or o request.plan) plan)
