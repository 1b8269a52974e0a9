use Rattle.std.proofs.Common.{rules}
use Rattle.std.proofs.lemmas.Result.{err_from_is_err_and}
use Rattle.teams.specs.declared.flow.Progress.TheVariants.{Idle, Over, Worked}
use Rattle.flows.proofs.Turning.{turned, unoffered, unsent}
use Rattle.flows.proofs.controller_flow.ControllerFlowFlow.turn.Goals as goal

pub returns-in_err-decided-clause-turned : goal.returns-in_err-decided-clause-turned
returns-in_err-decided-clause-turned g c =
    let p = err_from_is_err_and c.from_residual.result c.from_residual.ensures.1 in
    rw (p.1, p.2, ← c.self.view_is) (unoffered (g.G.Gate.answers c.args.gate.now) c.self.inside.number _ c.control_step-asked.new.self c.control_step-told.new.self _ c.control_step-asked.ensures.answered c.control_step-told.ensures.answered _ c.in_err-decided.ensures.one (search rules))

pub returns-in_err-sent-clause-turned : goal.returns-in_err-sent-clause-turned
returns-in_err-sent-clause-turned g c =
    let p = err_from_is_err_and c.from_residual-in_err-sent.result c.from_residual-in_err-sent.ensures.1 in
    rw (p.1, p.2, ← c.self.view_is) (unsent (g.G.Gate.answers c.args.gate.now) c.self.inside.number _ c.control_step-asked.new.self c.control_step-told.new.self _ c.control_step-asked.ensures.answered c.control_step-told.ensures.answered c.in_ok-decided.decided _
    c.in_ok-decided.ensures.one c.in_err-sent.ensures.one)

pub returns-then-has_served-clause-turned : goal.returns-then-has_served-clause-turned
returns-then-has_served-clause-turned g c =
    rw (← c.self.view_is) (turned (g.G.Gate.answers c.args.gate.now) c.self.inside.number _ c.control_step-asked.new.self c.control_step-told.new.self _ c.control_step-asked.ensures.answered c.control_step-told.ensures.answered c.in_ok-decided.decided c.in_ok-sent.sent Over
    c.in_ok-decided.ensures.one c.in_ok-sent.ensures.one (search rules))

pub returns-then-sent-clause-turned : goal.returns-then-sent-clause-turned
returns-then-sent-clause-turned g c =
    rw (← c.self.view_is) (turned (g.G.Gate.answers c.args.gate.now) c.self.inside.number _ c.control_step-asked.new.self c.control_step-told.new.self _ c.control_step-asked.ensures.answered c.control_step-told.ensures.answered c.in_ok-decided.decided c.in_ok-sent.sent Worked
    c.in_ok-decided.ensures.one c.in_ok-sent.ensures.one (search rules))

pub returns-else-sent-clause-turned : goal.returns-else-sent-clause-turned
returns-else-sent-clause-turned g c =
    rw (← c.self.view_is) (turned (g.G.Gate.answers c.args.gate.now) c.self.inside.number _ c.control_step-asked.new.self c.control_step-told.new.self _ c.control_step-asked.ensures.answered c.control_step-told.ensures.answered c.in_ok-decided.decided c.in_ok-sent.sent Idle
    c.in_ok-decided.ensures.one c.in_ok-sent.ensures.one (search rules))
