use Rattle.std.proofs.Common.{◌<◌, rules, sym, subst, arith}
use Rattle.crossbeam_queue.specs.Passes.{view}
use Rattle.pool.specs.declared.hand.Hand.{Hand}
use Rattle.pool.specs.Hands.{HoldsWhole}
use Rattle.pool.specs.Plays.{IsFair}
use Rattle.pool.proofs.Rules.{merges, learns}
use Rattle.pool.proofs.Accounts.{accounts, holds-whole}
use Rattle.pool.proofs.pool.PoolPass.join.Goals as goal

pub absorb-requires-clause-rule : goal.absorb-requires-clause-rule
absorb-requires-clause-rule c = merges _ _ _ _ c.self.invariant.share c.other.invariant.share

pub learn_as-requires-clause-rule : goal.learn_as-requires-clause-rule
learn_as-requires-clause-rule c =
    learns _ _ (subst (λ (v : Hand). 0 < v.share) (sym c.absorb.ensures.rule) (omega (arith, c.self.invariant.share)))

pub returns-clause-accounts : goal.returns-clause-accounts
returns-clause-accounts c = accounts _ (let fair : IsFair (view c.learn_as.new.pass) = search rules in fair)

pub returns-clause-whole : goal.returns-clause-whole
returns-clause-whole c = subst HoldsWhole (sym c.learn_as.ensures.queue.1) (holds-whole _ _ c.learn_as.ensures.rule.1)
