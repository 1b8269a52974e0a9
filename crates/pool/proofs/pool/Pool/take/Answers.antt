use Rattle.std.proofs.Common.{rules}
use Rattle.crossbeam_queue.specs.Passes.{view}
use Rattle.pool.specs.Plays.{IsFair}
use Rattle.pool.proofs.Rules.{takes, learns}
use Rattle.pool.proofs.Accounts.{accounts, was-dry}
use Rattle.pool.proofs.pool.Pool.take.Goals as goal

pub pop_as-requires-clause-rule : goal.pop_as-requires-clause-rule
pop_as-requires-clause-rule g c = (takes _ _ c.pass.invariant.share, learns _ _ c.pass.invariant.share)

pub returns-clause-accounts : goal.returns-clause-accounts
returns-clause-accounts g c = accounts _ (let fair : IsFair (view c.pop_as.new.pass) = search rules in fair)

pub returns-clause-dry : goal.returns-clause-dry
returns-clause-dry g c = search (rules, was-dry)
