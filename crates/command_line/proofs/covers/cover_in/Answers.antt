-- The flags and what is expected are those of the request.
use Rattle.std.proofs.Common.{◌≡◌, ap, refl, Bool, Option, Some, None, unwrap_or}
use Rattle.requests.specs.declared.replay.ReplayOutput.{ReplayOutput}
use Rattle.ring_model.specs.declared.states.Completion.{Completion}
use Rattle.requests.specs.declared.covers.CoverRequest.{CoverRequest}
use Rattle.command_line.proofs.covers.cover_in.Goals as goal

-- a request, from its parts
from-parts : (request : CoverRequest) (c : Completion) (e : Option ReplayOutput) (d : Bool) → c ≡ request.completion → e ≡ request.expect → d ≡ request.device_only
    → ◌≡◌ {A = CoverRequest} (record { completion = c; expect = e; device_only = d }) request
from-parts request c e d completion_is expect_is device_is = rw (completion_is, expect_is, device_is) refl

pub returns-in_err-expect : goal.returns-in_err-expect
returns-in_err-expect c request has = let none : None ≡ Some request.expect = c.in_err-expect.ensures request.expect has.expect in cc

pub returns : goal.returns
returns c request has =
    ap (λ (r : CoverRequest). Some r)
    (from-parts request _ _ _ (c.completion_in-completion.ensures request.completion has.head)
    (ap (λ (o : Option (Option ReplayOutput)). unwrap_or o request.expect) (c.in_ok-expect.ensures request.expect has.expect))
    (c.flag_in-device_only.ensures request.device_only has.device_only))
