use Rattle.std.proofs.Common.{◌<◌, sym, subst, arith}
use Rattle.pool.specs.Owned.{Passed}
use Rattle.pool.proofs.Rules.{forks}
use Rattle.pool.proofs.shares.part.Goals as goal

pub another-requires-clause-rule : goal.another-requires-clause-rule
another-requires-clause-rule g c =
    let less = subst (λ (p : Passed). c.args.k < p.hand.share) (sym c.pass.view_is) c.requires.less in
    forks _ _ _ (omega (arith, c.requires.amount)) (omega (arith, c.requires.amount, less))
