-- The plan, the numbers and what is expected are those of the request.
use Rattle.std.proofs.Common.{◌≡◌, ap, Option, Some, None, unwrap_or}
use Rattle.requests.specs.declared.replay.ReplayOutput.{ReplayOutput}
use Rattle.requests.specs.declared.lists.ScheduleRequest.{ScheduleRequest}
use Rattle.command_line.proofs.RequestParts.{request-from}
use Rattle.command_line.proofs.lists.request_of.Goals as goal

pub returns-in_err-expect-clause-said : goal.returns-in_err-expect-clause-said
returns-in_err-expect-clause-said c request seed_is count_is has plan_is = let none : None ≡ Some request.expect = c.in_err-expect.ensures request.expect has in cc

pub returns-clause-said : goal.returns-clause-said
returns-clause-said c request seed_is count_is has plan_is =
    ap (λ (r : ScheduleRequest). Some r)
    (request-from request _ _ _ _ plan_is (c.in_ok-seed.ensures request.seed seed_is) (c.in_ok-count.ensures request.count count_is)
    (ap (λ (o : Option (Option ReplayOutput)). unwrap_or o request.expect) (c.in_ok-expect.ensures request.expect has)))
