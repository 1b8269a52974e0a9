use Rattle.flows.proofs.Counted.{sends}
use Rattle.std.proofs.Common.{rules}
use Rattle.flows.proofs.output.Output.into_sent.Goals as goal

pub returns : goal.returns
returns c = λ all h. sends c.args.self all h _ _ _ (search rules) (search rules) (search rules) (search rules)
