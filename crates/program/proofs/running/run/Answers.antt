use Rattle.std.proofs.Common.{ℕ, sym, subst}
use Rattle.command_line.specs.CommandLine.{IsForward}
use Rattle.command_line.specs.ParsedCommands.{IsAsked}
use Rattle.program.specs.RunEnds.{EndsSaid}
use Rattle.command_line.specs.ParsedCommands.ParsedCommand.{forward}
use Rattle.command_line.specs.declared.command.Asked.{Asked}
use Rattle.command_line.proofs.ParsedCommands.{unshown-capture, unshown-cover, unshown-forward}
use Rattle.program.proofs.RunEndings.{capture-said, cover-said, forward-said, kept, request-ends, schedules-said}
use Rattle.program.proofs.running.run.Goals as goal

-- ---- how it ends

pub returns-in-Ok-Request-clause-ends : goal.returns-in-Ok-Request-clause-ends
returns-in-Ok-Request-clause-ends g c saying says =
    let is = subst (IsAsked saying) c.in-Ok-Request.field-0-is (c.in-Ok-Request.ensures.said saying says) in
    request-ends saying c.in-Ok-Request.request c.args.is_terminal _ _ _ _ is c.answer.ensures.ends

pub returns-in-Ok-Forward-clause-ends : goal.returns-in-Ok-Forward-clause-ends
returns-in-Ok-Forward-clause-ends g c saying says =
    let is = subst (IsAsked saying) c.in-Ok-Forward.field-0-is (c.in-Ok-Forward.ensures.said saying says) in
    forward-said _ saying c.in-Ok-Forward.config c.in-Ok-Forward.printing c.args.is_terminal _ _ _ _ is says c.forward.ensures.ends

pub returns-in-Ok-Capture-clause-ends : goal.returns-in-Ok-Capture-clause-ends
returns-in-Ok-Capture-clause-ends g c saying says =
    let is = subst (IsAsked saying) c.in-Ok-Capture.field-0-is (c.in-Ok-Capture.ensures.said saying says) in
    capture-said saying c.in-Ok-Capture.request c.args.is_terminal _ _ _ _ is c.answer-in-Ok-Capture.ensures.ends

pub returns-in-Ok-Schedules-clause-ends : goal.returns-in-Ok-Schedules-clause-ends
returns-in-Ok-Schedules-clause-ends g c saying says =
    let is = subst (IsAsked saying) c.in-Ok-Schedules.field-0-is (c.in-Ok-Schedules.ensures.said saying says) in
    let answered = c.answer-in-Ok-Schedules.ensures in
    schedules-said saying c.in-Ok-Schedules.request c.args.is_terminal _ _ _ _ is (record { done = answered.prints; either = answered.status; no_queues = answered.no_queues })

pub returns-in-Ok-Cover-clause-ends : goal.returns-in-Ok-Cover-clause-ends
returns-in-Ok-Cover-clause-ends g c saying says =
    let is = subst (IsAsked saying) c.in-Ok-Cover.field-0-is (c.in-Ok-Cover.ensures.said saying says) in
    cover-said saying c.in-Ok-Cover.request c.args.is_terminal _ _ _ _ is c.answer-in-Ok-Cover.ensures.ends

pub returns-in-Err-clause-ends : goal.returns-in-Err-clause-ends
returns-in-Err-clause-ends g c saying says =
    let m = c.tell.ensures.memory (c.in-Err.ensures.said saying says) in
    subst (λ (status : ℕ). EndsSaid saying c.args.is_terminal (g.I.Read.remaining c.args.input.now) status (g.W.Write.contents c.args.output.now) (g.W.Write.contents c.tell.new.output)) (sym m.0)
    (kept saying c.args.is_terminal (g.I.Read.remaining c.args.input.now) (g.W.Write.contents c.args.output.now) (g.W.Write.contents c.tell.new.output) m.1)

-- ---- the input, which only a forwarding leaves unread

pub returns-in-Ok-Request-clause-unread : goal.returns-in-Ok-Request-clause-unread
returns-in-Ok-Request-clause-unread g c config printing files says =
    absurd (subst (λ (a : Asked). IsForward a config printing) c.in-Ok-Request.field-0-is (c.in-Ok-Request.ensures.said (forward config printing files) says))

pub returns-in-Ok-Capture-clause-unread : goal.returns-in-Ok-Capture-clause-unread
returns-in-Ok-Capture-clause-unread g c config printing files says =
    absurd (subst (λ (a : Asked). IsForward a config printing) c.in-Ok-Capture.field-0-is (c.in-Ok-Capture.ensures.said (forward config printing files) says))

-- ---- the screen

pub returns-in-Ok-Forward-clause-screen : goal.returns-in-Ok-Forward-clause-screen
returns-in-Ok-Forward-clause-screen g c unshown =
    let asks = c.in-Ok-Forward.ensures in
    let dark = unshown-forward _ c.in-Ok-Forward.field-0 c.in-Ok-Forward.config c.in-Ok-Forward.printing c.in-Ok-Forward.field-0-is asks.said asks.misuse unshown in
    c.forward.ensures.screen dark.config dark.printing dark.files dark.says dark.no_progress dark.no_rate dark.no_stream dark.no_skip dark.no_turns

pub returns-in-Ok-Cover-clause-screen : goal.returns-in-Ok-Cover-clause-screen
returns-in-Ok-Cover-clause-screen g c unshown =
    let asks = c.in-Ok-Cover.ensures in
    absurd (unshown-cover _ c.in-Ok-Cover.field-0 c.in-Ok-Cover.request c.in-Ok-Cover.field-0-is asks.said asks.misuse unshown)

pub returns-in-Ok-Capture-clause-screen : goal.returns-in-Ok-Capture-clause-screen
returns-in-Ok-Capture-clause-screen g c unshown =
    let asks = c.in-Ok-Capture.ensures in
    c.answer-in-Ok-Capture.ensures.screen (unshown-capture _ c.in-Ok-Capture.field-0 c.in-Ok-Capture.request c.in-Ok-Capture.field-0-is asks.said asks.misuse unshown)
