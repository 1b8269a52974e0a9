-- There is an obstacle exactly if the machine refuses.
use Rattle.std.proofs.Common.{◌∙◌, ap}
use Rattle.std.specs.Prelude.{is_none}
use Rattle.ring_machine.proofs.Obstacles.{queue_exact}
use Rattle.ring_machine.proofs.queues.Queues.obstacle.Goals as goal

pub returns-clause-exact : goal.returns-clause-exact
returns-clause-exact c = ap is_none c.hindrance.ensures ∙ queue_exact c.args.self.now c.args.action.now
