-- The pass that is left is still of the pool.
use Rattle.std.proofs.Common.{ap, sym, subst, arith}
use Rattle.pool.specs.Owned.{IsOf}
use Rattle.forwarder.proofs.starting.start_flow.Goals as goal

pub returns-clause-pool : goal.returns-clause-pool
returns-clause-pool g c =
    let was = c.requires.pool in
    subst (IsOf c.args.pool.now) (sym c.split-own.ensures.kept) (record { pool = was.pool; count = was.count })

pub returns-clause-share : goal.returns-clause-share
returns-clause-share g c = let less = ap (λ p. p.hand.share) c.split-own.ensures.kept in omega (arith, less, c.requires.share)
