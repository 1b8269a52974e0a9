-- A refusal of `replay` is one of the list's text.
use Rattle.std.proofs.Common.{Some, rules}
use Rattle.std.specs.Prelude.{IfErr}
use Rattle.std.proofs.lemmas.Result.{IfErr-weaker}
use Rattle.commands.specs.Replay.{RefusesReplay}
use Rattle.schedule_command.specs.Covers.{IsUnreplayed, queues_of}
use Rattle.schedule_command.proofs.covering.listing.expected_of.Goals as goal

pub returns-in-Some-clause-refused : goal.returns-in-Some-clause-refused
returns-in-Some-clause-refused c =
    let list = Some c.args.list.now in
    let refuses : IfErr c.replay_text.result (RefusesReplay (queues_of c.args.scope c.in-Some.shown) list) = search rules in
    IfErr-weaker c.replay_text.result (RefusesReplay (queues_of c.args.scope c.in-Some.shown) list) (IsUnreplayed c.args.scope c.args.list.now)
    (λ e r. record { form = c.in-Some.shown; why = r }) refuses
