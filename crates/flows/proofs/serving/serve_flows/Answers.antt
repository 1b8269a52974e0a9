use Rattle.std.proofs.Common.{rules, map, sym, subst}
use Rattle.std.proofs.lemmas.List.{length-map}
use Rattle.teams.specs.Dealing.{IsDealt}
use Rattle.flows.proofs.serving.serve_flows.Goals as goal

pub returns-clause-drivers : goal.returns-clause-drivers
returns-clause-drivers g c =
    let ds = map g.D.Flow.key c.args.drivers.items in
    c.gather.ensures.keys ds (search (rules, length-map)) (subst (IsDealt ds) (sym c.run_teams-ran.ensures.drivers) c.deal_flows-drivers.ensures.dealt)

pub returns-clause-controllers : goal.returns-clause-controllers
returns-clause-controllers g c =
    let cs = map g.C.Flow.key c.args.controllers.items in
    c.gather-2.ensures.keys cs (search (rules, length-map)) (subst (IsDealt cs) (sym c.run_teams-ran.ensures.controllers) c.deal_flows-controllers.ensures.dealt)
