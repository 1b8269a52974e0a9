use Rattle.std.proofs.Common.{◌≡◌, ℕ, List, [], ◌∷◌, rules, sym, ap, subst, Contains, IsPermutation}
use Rattle.limits.specs.declared.profile.TheConstants.{BUFFER_BYTES}
use Rattle.crossbeam_queue.specs.Passes.{view}
use Rattle.buffer_pool.specs.Buffer.{Buffer, buffer}
use Rattle.pool.specs.Hands.{Gave}
use Rattle.pool.specs.Owned.{Passed}
use Rattle.pool.specs.Plays.{IsFair}
use Rattle.pool.proofs.Rules.{gives, learns}
use Rattle.pool.proofs.Accounts.{accounts}
use Rattle.pool.proofs.Moving.{given-left}
use Rattle.pool.proofs.pool.Pool.give.Goals as goal

-- a buffer with room is one of a pool once it is cleared
cleared : (b after : Buffer) → after ≡ record b { bytes = [] } → b.capacity ≡ BUFFER_BYTES → after ≡ buffer after.number []
cleared b after e real = rw (e, real)

pub push_as-requires-clause-rule : goal.push_as-requires-clause-rule
push_as-requires-clause-rule g c =
    let held = subst (λ (p : Passed). Contains p.hand.held c.args.buf.number) (sym c.pass.view_is) c.requires.held in
    let number : c.clear.new.self.number ≡ c.args.buf.number = ap (λ (b : Buffer). b.number) c.clear.ensures in (
      gives _ _ _ _ c.pass.invariant.share
          (cleared c.args.buf c.clear.new.self c.clear.ensures c.requires.real)
          (subst (λ (n : ℕ). Contains (view c.pass.inside.pass).held n) (sym number) held),
      learns _ _ c.pass.invariant.share,
    )

pub returns-clause-accounts : goal.returns-clause-accounts
returns-clause-accounts g c = accounts _ (let fair : IsFair (view c.push_as.new.pass) = search rules in fair)

pub returns-clause-left : goal.returns-clause-left
returns-clause-left g c = λ rest p.
    let gave : Gave c.args.pass.now.hand (c.args.buf.number ∷ []) (view c.push_as.new.pass) = search rules in
    subst (λ (held : List ℕ). IsPermutation held rest) (sym gave.held) (given-left c.args.pass.now.hand.held c.args.buf.number rest p)
