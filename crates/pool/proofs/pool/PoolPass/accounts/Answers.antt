use Rattle.std.proofs.Common.{subst}
use Rattle.pool.specs.Hands.{Accounts}
use Rattle.pool.specs.Owned.{Passed}
use Rattle.pool.proofs.Accounts.{accounts}
use Rattle.pool.proofs.pool.PoolPass.accounts.Goals as goal

pub returns : goal.returns
returns c = subst (λ (p : Passed). Accounts p.hand) c.self.view_is (accounts _ c.self.invariant.fair)
