use Rattle.std.proofs.Common.{ℕ, List, ◌∷◌, IfSome, subst}
use Rattle.buffer_pool.specs.Shelf.{stock_of}
use Rattle.buffer_pool.specs.Stocked.{Stocked, Shares}
use Rattle.buffer_pool.proofs.Pile.{IsPopped-from}
use Rattle.buffer_pool.proofs.stock.Stock.take.Goals as goal

pub invariant_of-self : goal.invariant_of-self
invariant_of-self c =
    let popped = IsPopped-from _ _ _ _ _ c.pop.ensures.items c.self.invariant.numbers c.self.invariant.ready in
    record {
      numbers = popped.numbers;
      ready = popped.ready;
      room = rw c.pop.ensures.capacity c.self.invariant.room;
    }

pub returns-clause-out : goal.returns-clause-out
returns-clause-out c =
    (IsPopped-from _ _ _ _ _ c.pop.ensures.items c.self.invariant.numbers c.self.invariant.ready).out

-- The lemma speaks of the fields, and the clause of the stock before.
pub returns-clause-shared : goal.returns-clause-shared
returns-clause-shared c =
    let popped = IsPopped-from _ _ _ _ _ c.pop.ensures.items c.self.invariant.numbers c.self.invariant.ready in
    let left : Stocked = stock_of c.self.inside.first c.self.inside.count c.pop.new.self.items in
    let Claim : Stocked → Type 0 = λ old. IfSome c.pop.result (λ b. (out : List ℕ) → Shares old out → Shares left (b.number ∷ out)) in
    subst Claim c.self.view_is popped.shared
