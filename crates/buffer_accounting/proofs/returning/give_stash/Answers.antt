use Rattle.std.proofs.Common.{◌∙◌, ◌++◌, ℕ, List, sym, subst, arith, IsPermutation}
use Rattle.std.proofs.lemmas.List.{take_all, drop_all}
use Rattle.pool.specs.Hands.{HoldsAll}
use Rattle.buffer_accounting.proofs.returning.give_stash.Goals as goal

pub give_all-requires-clause-held : goal.give_all-requires-clause-held
give_all-requires-clause-held g c = subst (HoldsAll c.args.pass.now.hand.held) (sym (take_all c.len-count.result c.args.stash.now (omega arith))) c.requires.held

pub returns-clause-empty : goal.returns-clause-empty
returns-clause-empty g c = c.give_all.ensures.stash ∙ drop_all c.give_all.result c.args.stash.now (omega arith)

pub returns-clause-given : goal.returns-clause-given
returns-clause-given g c = λ rest p. c.give_all.ensures.left rest (subst (λ (l : List ℕ). IsPermutation c.args.pass.now.hand.held (l ++ rest)) (sym (take_all c.give_all.result c.args.stash.now (omega arith))) p)
