use Rattle.std.proofs.Common.{◌≡◌, ℕ, List, [], ◌∷◌, ◌++◌, sym, subst, arith}
use Rattle.buffer_pool.specs.Buffer.{Buffer, buffer}
use Rattle.buffer_pool.specs.Held.{stocked}
use Rattle.buffer_pool.specs.Stocked.{Stocked, IsOut, Shares}
use Rattle.buffer_pool.proofs.Numbers.{length-lt_count}
use Rattle.buffer_pool.proofs.Pile.{length-numbers_of, IsPushed-from}
use Rattle.buffer_pool.proofs.stock.Stock.give.Goals as goal

-- A stock that a buffer is out of has room for it.
pub push_reserved-requires : goal.push_reserved-requires
push_reserved-requires c =
    let out = subst (λ (s : Stocked). IsOut s c.args.buf.number) (sym c.self.view_is) c.requires.out in
    omega (
      arith,
      length-lt_count (stocked c.self.inside) c.args.buf.number c.self.invariant.numbers out,
      length-numbers_of c.self.inside.pile.items,
      c.self.inside.pile.ok.0,
      c.self.invariant.room,
    )

-- what a `push_reserved` leaves, where the buffer that it was given had been emptied
emptied : (before after : List Buffer) (b : Buffer) (number capacity : ℕ)
    → after ≡ before ++ b ∷ [] → b ≡ record { number = number; bytes = []; capacity = capacity }
    → capacity ≡ (buffer number []).capacity → after ≡ before ++ buffer number [] ∷ []
emptied before after b number capacity pushed cleared real = rw (pushed, cleared, real)

pub invariant_of-self : goal.invariant_of-self
invariant_of-self c =
    let items = emptied _ _ _ _ _ c.push_reserved.ensures.items c.clear.ensures c.requires.real in
    let out = subst (λ (s : Stocked). IsOut s c.args.buf.number) (sym c.self.view_is) c.requires.out in
    let pushed = IsPushed-from _ _ _ _ _ items c.self.invariant.numbers c.self.invariant.ready out in
    record {
      numbers = pushed.numbers;
      ready = pushed.ready;
      room = rw c.push_reserved.ensures.capacity c.self.invariant.room;
    }

-- The lemma speaks of the fields, and the clause of the stock before.
pub returns-clause-shared : goal.returns-clause-shared
returns-clause-shared c = λ others shared.
    let items = emptied _ _ _ _ _ c.push_reserved.ensures.items c.clear.ensures c.requires.real in
    let out = subst (λ (s : Stocked). IsOut s c.args.buf.number) (sym c.self.view_is) c.requires.out in
    let pushed = IsPushed-from _ _ _ _ _ items c.self.invariant.numbers c.self.invariant.ready out in
    pushed.shared others (subst (λ (s : Stocked). Shares s (c.args.buf.number ∷ others)) (sym c.self.view_is) shared)
