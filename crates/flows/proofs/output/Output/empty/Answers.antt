use Rattle.flows.proofs.Counted.{holds-none}
use Rattle.std.proofs.Common.{rules}
use Rattle.flows.proofs.output.Output.empty.Goals as goal

pub returns-clause-holds : goal.returns-clause-holds
returns-clause-holds c = λ all h. holds-none c.args.self.now all h _ (search rules) (search rules) (search rules) (search rules) (search rules)
