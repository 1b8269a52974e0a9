use Rattle.flows.proofs.Dealing.{dealt-keys}
use Rattle.flows.proofs.serving.deal_flows.Goals as goal

pub returns-clause-dealt : goal.returns-clause-dealt
returns-clause-dealt g c = dealt-keys g.F.Flow.key c.args.flows.items (λ h. h.items) c.deal.result.items c.deal.ensures.dealt
